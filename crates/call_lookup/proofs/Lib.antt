-- The laws of lookup's outcomes.
pub mod Records
pub mod Outcomes
