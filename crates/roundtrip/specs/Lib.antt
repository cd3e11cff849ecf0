pub mod Between
pub mod Commands
