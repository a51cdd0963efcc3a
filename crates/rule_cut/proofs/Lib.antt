-- The crate's laws that belong to no one function.
pub mod Counted
pub mod Step
pub mod Across
pub mod Over
pub mod Steps
pub mod Moved
