pub mod Names
pub mod History
