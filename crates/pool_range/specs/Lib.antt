pub mod Cols
pub mod Lent
pub mod Part
