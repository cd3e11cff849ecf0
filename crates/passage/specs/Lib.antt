pub mod Acting
pub mod Pass
