mod Between
mod SoFar
pub mod Entry
pub mod Appended
mod LastOne
mod SinceTheWrite
pub mod Meaning
mod AlikeEntries
pub mod OwnView
pub mod MaskedBits
pub mod Agree
