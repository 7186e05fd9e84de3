pub mod Makers
pub mod Rows
pub mod Inner
