mod Spread
pub mod Nibble
pub mod Masks
pub mod Agree
