pub mod Stepping
pub mod Span
pub mod Registers
pub mod Agree
