pub mod Facts
pub mod Addenda
pub mod Notes
