pub mod ByNumber
pub mod RowsGiven
pub mod Rows
pub mod CallsByNumber
pub mod JobNumbers
pub mod RefusedWritesNothing
pub mod RefusedBytes
pub mod CSidePacked
mod OwnCell
mod WhyNumbers
pub mod Demand1
pub mod OwnLetter
mod LinesInOrder
mod OneText
pub mod MaskedBits
pub mod Certificate
pub mod Demand2
pub mod Apart
pub mod Demand3
pub mod MasksOnWire
pub mod MasksOnLine
pub mod TurnedAnswer
pub mod Undetected
pub mod WhereItEnds
pub mod EachStep
pub mod RoundTrip
mod RowsPassed
mod ChecksPass
mod FieldsTold
mod SpotsTold
mod EchoTold
pub mod TellMeWhy
pub mod StarredNumbers
pub mod SecondCall
mod CSideLine
pub mod CSideCommands
pub mod CSideAnswers
mod BytesTurned
pub mod CSideDamage
pub mod CSideWhy
