pub mod Sending
pub mod Counting
mod Fields
mod Answering
mod FromPowerOn
pub mod Rehearsing
pub mod OneAccepted
pub mod Accepted
pub mod Agree
