pub mod EqualLength
pub mod Passing
pub mod ActedLength
pub mod Agree
