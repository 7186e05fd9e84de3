pub mod Entries
pub mod Groups
pub mod Inner
pub mod Words
