pub mod Nodes
pub mod Runs
pub mod Chain
pub mod Siblings
pub mod Tree
