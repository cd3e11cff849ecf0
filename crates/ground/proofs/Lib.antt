pub mod Test
pub mod Sweep
pub mod Same
pub mod Lists
