pub mod Cut
pub mod Cutting
