pub mod Rows
pub mod InOrder
