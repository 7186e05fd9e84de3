-- What the crate's own functions cite between themselves.
pub mod Reading
pub mod Rules
pub mod Matches
