pub mod Rejected
pub mod Inputs
