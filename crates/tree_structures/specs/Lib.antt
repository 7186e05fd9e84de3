pub mod Formed
pub mod Meant
pub mod Known
pub mod Laws
pub mod Inner
