pub mod FromFn
pub mod Agree
