pub mod Character
pub mod Nibble
