pub mod Sizes
pub mod Walk
mod EachEntry
pub mod GoodEntry
mod Keeps
pub mod Entries
pub mod Placed
pub mod OneEntry
pub mod GoodFile
pub mod Agree
