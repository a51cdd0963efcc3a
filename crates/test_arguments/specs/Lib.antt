pub mod Room
pub mod Need
