pub mod Forced
pub mod Verdicts
pub mod Limits
pub mod Views
pub mod Inner
