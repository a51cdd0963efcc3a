-- Pins, cuts and leaves keep the tree and the stores sound.
pub mod Facts
pub mod Pins
pub mod CutTree
pub mod Leaf
pub mod CutStore
pub mod Insert
