pub mod Told
pub mod Counter
pub mod Spans
