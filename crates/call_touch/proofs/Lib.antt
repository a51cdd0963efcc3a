pub mod Books
pub mod Laws
pub mod Room
pub mod Running
