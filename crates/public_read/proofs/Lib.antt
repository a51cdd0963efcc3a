-- The crate's laws that belong to no one function.
pub mod AllowedResolve
pub mod AllowedLookup
pub mod Laws
pub mod AllowedCounts
