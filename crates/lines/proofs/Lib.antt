pub mod Between
pub mod Line
mod Nibbles
pub mod LineDistance
pub mod Agree
pub mod LeftBy
