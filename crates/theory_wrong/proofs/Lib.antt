-- What each public call's contract rules out, by kinds: laws, then a table for each kind of input.
pub mod Laws
pub mod Past
pub mod Wrong
pub mod Refused
pub mod Listed
pub mod Tallied
