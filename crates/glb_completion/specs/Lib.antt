pub mod Completion
pub mod Inner
