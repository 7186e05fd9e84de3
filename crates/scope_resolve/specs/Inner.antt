pub mod Ways
pub mod Nets
pub mod Filling
pub mod Masks
pub mod Pruning
pub mod Building
pub mod Resolving
