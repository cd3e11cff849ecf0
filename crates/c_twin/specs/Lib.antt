pub mod TwinBytes
