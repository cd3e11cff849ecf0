pub mod Taken
pub mod Agree
