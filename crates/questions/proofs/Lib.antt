pub mod ByKind
pub mod Good
pub mod Bytes
pub mod Wire
pub mod Worked
pub mod Agree
pub mod Within
