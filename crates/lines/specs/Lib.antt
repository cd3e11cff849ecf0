pub mod Line
pub mod Nibbles
pub mod Write
