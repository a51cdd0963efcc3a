-- The crate's laws that belong to no one function.
pub mod Lists
pub mod Parts
pub mod Laid
pub mod Changed
pub mod Cut
pub mod Accepted
pub mod Stores
pub mod Insert
pub mod Calls
pub mod Fits
pub mod Blocks
