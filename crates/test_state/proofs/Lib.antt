pub mod Places
pub mod Books
pub mod Ids
pub mod State
