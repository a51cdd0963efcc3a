pub mod Settled
pub mod Contract
