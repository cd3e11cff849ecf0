pub mod Register
pub mod Turned
