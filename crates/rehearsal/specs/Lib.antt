pub mod Rehearsal
pub mod Answering
pub mod Accepted
