pub mod Byte
mod Fours
pub mod Distance
pub mod Agree
