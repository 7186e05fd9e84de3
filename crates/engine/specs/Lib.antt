pub mod Speeches
pub mod Views
pub mod Ready
pub mod Named
pub mod Semantic
pub mod Checks
pub mod Inner
