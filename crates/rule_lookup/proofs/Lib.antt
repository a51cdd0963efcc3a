pub mod Laws
pub mod Spans
pub mod Seen
pub mod Turns
