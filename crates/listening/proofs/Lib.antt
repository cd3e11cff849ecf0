pub mod OneHeard
pub mod Listening
pub mod Agree
