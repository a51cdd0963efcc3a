-- The crate's laws that belong to no one function.
pub mod Columns
pub mod Laid
pub mod Copied
pub mod Records
