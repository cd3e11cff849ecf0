pub mod RowLaws
pub mod Tests
pub mod Agree
