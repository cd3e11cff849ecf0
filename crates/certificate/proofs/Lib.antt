pub mod Telling
mod Certifying
pub mod Answered
pub mod Longest
pub mod Memory
pub mod Agree
