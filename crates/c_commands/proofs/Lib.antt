mod TwoWords
mod Laid
mod Answered
pub mod Agree
