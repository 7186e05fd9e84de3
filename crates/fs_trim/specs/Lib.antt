pub mod Cutting
pub mod Owing
pub mod Inner
pub mod Marks
pub mod Matching
