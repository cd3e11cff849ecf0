pub mod Judge
pub mod Clean
