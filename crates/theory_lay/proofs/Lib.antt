-- Laws of a store as a value, and that set-up leaves a sound state.
pub mod SetUp
pub mod Lay
pub mod Books
pub mod Rows
pub mod Pools
pub mod Store
