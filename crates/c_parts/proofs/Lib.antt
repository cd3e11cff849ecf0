mod Taking
pub mod Agree
