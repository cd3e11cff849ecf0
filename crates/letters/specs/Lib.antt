pub mod Letters
pub mod Span
pub mod Meaning
