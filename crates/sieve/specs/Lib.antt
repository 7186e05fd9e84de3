pub mod Sketches
pub mod Unifying
pub mod Guards
pub mod Inner
