pub mod Names
pub mod Lists
pub mod Strings
pub mod Inner
