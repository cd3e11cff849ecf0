pub mod Wire
pub mod Sealed
pub mod Lengths
mod AcceptedBytes
mod AcceptedHello
mod AcceptedWrite
mod AcceptedRead
pub mod AcceptedIsAnAnswer
mod SealedIsAccepted
mod HelloIsAccepted
mod WriteIsAccepted
mod ReadIsAccepted
pub mod AnswerIsAccepted
pub mod SecondCall
