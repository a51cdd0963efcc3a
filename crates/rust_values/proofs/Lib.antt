-- The crates that export cite these.
pub mod Telling
pub mod Counter
pub mod Front
