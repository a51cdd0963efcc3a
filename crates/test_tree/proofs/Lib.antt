pub mod Each
pub mod Runs
pub mod Chain
pub mod Apart
pub mod Tree
pub mod Table
