pub mod Part
pub mod Pool
