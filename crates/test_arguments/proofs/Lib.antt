pub mod Laws
pub mod Need
