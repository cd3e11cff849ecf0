pub mod Pass
pub mod Masks
mod Parity
pub mod Agree
