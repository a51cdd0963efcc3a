-- The laws of the copying loops, of the small numbers and of set-up's two outcomes; set-up's contract is what the theorems take it to be.
pub mod Fresh
pub mod Outcomes
pub mod Allowed
