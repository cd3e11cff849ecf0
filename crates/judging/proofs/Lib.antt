pub mod Accepted
mod Clean
pub mod Screening
pub mod Bounds
pub mod SmallBytes
pub mod Agree
