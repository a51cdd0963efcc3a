-- The crate's laws that belong to no one function.
pub mod Values
pub mod Sizes
pub mod Texts
pub mod Reading
pub mod Examples
