-- The laws of resolve's outcomes.
pub mod Outcomes
