-- The demands of the lead, of the public calls.
pub mod Demands
pub mod Prefix
