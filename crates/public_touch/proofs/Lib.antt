-- The contract of `store_used` is what the theorems take it to be.
pub mod Allowed
mod Whole
mod Array
