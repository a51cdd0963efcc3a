-- The contract of insert is what the theorems take it to be.
pub mod Allowed
