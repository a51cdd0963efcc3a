pub mod Tallied
pub mod Steps
pub mod Balance
pub mod Figures
pub mod Bounds
