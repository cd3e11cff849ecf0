pub mod Certificate
pub mod Telling
