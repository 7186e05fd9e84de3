pub mod Parts
pub mod Written
pub mod Apart
pub mod Counts
pub mod Made
