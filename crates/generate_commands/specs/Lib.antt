pub mod Answers
pub mod Generating
pub mod Views
pub mod Contributing
pub mod Inner
