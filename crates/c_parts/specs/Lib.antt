pub mod PartBytes
