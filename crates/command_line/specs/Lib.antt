pub mod Words
pub mod Commands
pub mod Inner
pub mod Fronts
pub mod Faults
pub mod WordInner
