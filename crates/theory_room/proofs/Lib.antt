-- Demand 3 of the definitions.
pub mod Trim
pub mod Lookup
pub mod After
pub mod Room
pub mod Instance
