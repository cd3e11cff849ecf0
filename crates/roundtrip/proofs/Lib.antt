mod Alike
pub mod Values
mod KindTells
mod LengthTells
mod BytesBetween
mod AliveAndValues
mod HeardBack
mod WhereItActs
mod Acting
mod HelloActing
mod AnothersCommand
mod NextLine
mod PutInSoFar
mod NamedDevice
mod ToOneDevice
pub mod LineBetween
mod NotStepped
mod CommandFirst
mod AllActed
mod AnswerLast
pub mod RoundTrip
pub mod RegistersAfter
pub mod NothingByAccident
