pub mod Signs
pub mod Written
pub mod Inner
pub mod Stored
