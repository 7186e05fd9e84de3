pub mod Works
pub mod Inner
pub mod Draws
pub mod Plays
