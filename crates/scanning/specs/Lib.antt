pub mod Place
pub mod Along
pub mod Frame
