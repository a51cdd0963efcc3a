pub mod Gaps
pub mod Fill
