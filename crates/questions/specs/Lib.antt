pub mod Question
pub mod Shape
pub mod Bytes
