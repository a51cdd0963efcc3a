-- The crate's laws that belong to no one function.
pub mod Laid
pub mod Lists
pub mod Places
pub mod Laws
