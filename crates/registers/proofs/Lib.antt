pub mod Power
pub mod Agree
