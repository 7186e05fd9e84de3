pub mod Laws
pub mod Finding
pub mod Making
pub mod Telling
