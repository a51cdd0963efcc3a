pub mod Spelt
