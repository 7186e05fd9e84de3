pub mod Meanings
pub mod Views
pub mod Texts
pub mod Valid
pub mod Renaming
pub mod Digest
pub mod Inner
