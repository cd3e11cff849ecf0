pub mod FirstPlace
pub mod Ends
mod NoMisfits
pub mod Marks
pub mod Whole
pub mod Agree
