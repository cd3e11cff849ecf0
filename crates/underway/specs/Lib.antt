pub mod OnTheWay
pub mod TakeUp
