pub mod Agree
pub mod Marked
