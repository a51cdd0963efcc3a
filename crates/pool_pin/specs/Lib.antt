pub mod Columns
pub mod EntryPlace
