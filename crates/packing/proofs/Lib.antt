mod Storing
pub mod Back
pub mod Taken
pub mod Agree
