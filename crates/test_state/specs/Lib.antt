pub mod Ids
pub mod Stores
