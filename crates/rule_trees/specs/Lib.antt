pub mod Fulls
pub mod Mothers
pub mod Bounded
pub mod Wholes
pub mod Inner
