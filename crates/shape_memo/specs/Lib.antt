pub mod Known
pub mod Fronts
