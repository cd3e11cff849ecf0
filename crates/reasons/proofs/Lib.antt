pub mod Told
pub mod Agree
