pub mod FirstFault
mod Packed
pub mod Agree
