pub mod Growing
pub mod Crossings
pub mod Kinds
pub mod RowHash
