-- A bring-in and an expiry keep a store sound.
pub mod Facts
pub mod Evict
pub mod Trim
pub mod Fill
pub mod Bring
pub mod Expire
