pub mod Rising
pub mod Conserved
pub mod Table
pub mod Slips
