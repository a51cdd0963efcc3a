pub mod Places
pub mod Records
pub mod Pins
pub mod Marks
