pub mod Settled
pub mod Insert
pub mod Keep
