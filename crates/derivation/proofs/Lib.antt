pub mod Rows
pub mod Lists
pub mod Weights
pub mod Orders
pub mod Fronts
pub mod Texts
pub mod Total
pub mod Counting
