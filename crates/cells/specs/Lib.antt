pub mod Voltage
pub mod Cell
