pub mod Bring
