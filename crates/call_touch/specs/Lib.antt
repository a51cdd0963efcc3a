pub mod Looking
pub mod Going
pub mod Running
