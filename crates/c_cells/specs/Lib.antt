pub mod CellBytes
pub mod CellsBytes
