pub mod TreeGrammars
pub mod Laws
