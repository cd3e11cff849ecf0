pub mod Hearing
pub mod Agree
