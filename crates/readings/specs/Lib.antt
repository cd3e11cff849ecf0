pub mod Reading
pub mod FirstFault
pub mod Packed
