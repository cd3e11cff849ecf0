pub mod Xor
pub mod Turned
pub mod Linear
pub mod Table
pub mod Run
