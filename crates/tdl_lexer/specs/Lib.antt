pub mod Characters
pub mod Pieces
pub mod Readings
pub mod Scan
pub mod Spelling
