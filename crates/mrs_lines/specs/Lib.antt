pub mod Lines
pub mod Laws
pub mod Remembered
pub mod Fitting
