pub mod Span
pub mod Walk
