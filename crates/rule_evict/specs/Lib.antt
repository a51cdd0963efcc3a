pub mod Evict
pub mod Given
