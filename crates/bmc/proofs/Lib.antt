mod FewBytes
pub mod Agree
