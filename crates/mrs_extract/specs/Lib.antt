pub mod Extraction
pub mod Asked
pub mod Laws
pub mod Inner
