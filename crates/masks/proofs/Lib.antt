pub mod MaskOf
pub mod Agree
