pub mod Signed
pub mod Trees
pub mod Conditions
pub mod Inner
