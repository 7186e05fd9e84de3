pub mod Reach
pub mod Ranks
pub mod Rows
pub mod Columns
pub mod Marks
pub mod Parents
pub mod Tables
pub mod Nearest
