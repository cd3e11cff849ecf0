pub mod Format
pub mod Rules
pub mod Refusals
pub mod Check
pub mod Encoded
