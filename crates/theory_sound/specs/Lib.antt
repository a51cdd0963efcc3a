pub mod Facts
pub mod StoreSound
