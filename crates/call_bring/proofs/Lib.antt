pub mod Bring
pub mod Laws
