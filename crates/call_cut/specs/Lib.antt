pub mod Needs
pub mod Refusal
pub mod Halves
pub mod Room
