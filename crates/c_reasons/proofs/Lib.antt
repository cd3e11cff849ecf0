pub mod OnWords
pub mod Agree
