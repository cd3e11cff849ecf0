pub mod Sweep
pub mod Same
pub mod Agree
