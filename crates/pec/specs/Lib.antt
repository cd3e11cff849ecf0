pub mod Pec
pub mod Moved
pub mod Distance
