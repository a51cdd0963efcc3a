-- The laws of a lookup that keeps the sums.
pub mod Lookup
