pub mod Inner
pub mod Faults
pub mod Features
pub mod Forms
