mod Scaled
mod Quotient
mod Determined
pub mod Exact
pub mod Nearest
pub mod Ranges
pub mod Larger
pub mod EachRegister
pub mod Agree
