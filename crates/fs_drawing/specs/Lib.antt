pub mod Cutting
pub mod Drawing
pub mod Counting
pub mod Noting
pub mod Bounding
pub mod Inner
