mod Laying
mod Printing
pub mod Lengths
pub mod Agree
