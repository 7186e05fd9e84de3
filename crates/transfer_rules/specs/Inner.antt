pub mod Terms
pub mod Views
pub mod Drafts
pub mod Read
pub mod Sides
