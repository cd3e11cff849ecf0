pub mod CommandBytes
