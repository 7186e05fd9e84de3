pub mod Marks
pub mod Hanging
