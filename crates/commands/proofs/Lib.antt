pub mod Writing
pub mod Filled
pub mod Issuing
pub mod Agree
