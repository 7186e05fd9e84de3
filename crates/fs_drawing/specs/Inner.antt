pub mod Floors
pub mod Climbing
