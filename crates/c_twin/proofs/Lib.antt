mod Bytes
mod PoweredBytes
mod SteppedBytes
pub mod Agree
