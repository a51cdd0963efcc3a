-- The contract of each call is what the theorems take it to be.
pub mod Allowed
