pub mod Lists
pub mod Inner
pub mod Fits
pub mod Sought
pub mod Tests
