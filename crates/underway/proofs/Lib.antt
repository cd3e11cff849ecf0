mod Laying
mod Compared
mod TakingUp
pub mod Way
pub mod Agree
