-- The crate's laws that belong to no one function.
pub mod Halving
pub mod Deep
pub mod Walked
pub mod Prefix
pub mod Spelt
