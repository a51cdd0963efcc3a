-- The crate's laws that belong to no one function.
pub mod Across
pub mod Fewer
pub mod Listed
pub mod Staying
pub mod Written
