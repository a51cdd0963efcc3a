pub mod Lent
pub mod Pins
