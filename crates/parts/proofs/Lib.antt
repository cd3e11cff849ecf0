pub mod Part
pub mod Agree
