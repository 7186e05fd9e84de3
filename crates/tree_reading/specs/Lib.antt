pub mod Grammars
pub mod Texts
pub mod Inner
