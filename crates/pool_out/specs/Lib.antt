pub mod Evicted
pub mod Outs
