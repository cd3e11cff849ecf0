mod Named
mod ByCell
mod Numbered
pub mod EachCell
pub mod Agree
