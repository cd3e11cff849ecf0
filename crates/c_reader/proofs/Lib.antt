mod OnWords
pub mod Agree
