pub mod Meaning
pub mod Places
pub mod Inner
pub mod Laws
