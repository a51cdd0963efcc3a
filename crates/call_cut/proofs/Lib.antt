-- The crate's laws that belong to no one function.
pub mod Stores
pub mod Refusals
pub mod Halves
pub mod Laws
