pub mod Values
mod Passed
pub mod Agree
