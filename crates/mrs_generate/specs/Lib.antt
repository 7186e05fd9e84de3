pub mod Answers
pub mod Views
pub mod Contributors
pub mod Laws
pub mod Inner
pub mod Grammars
