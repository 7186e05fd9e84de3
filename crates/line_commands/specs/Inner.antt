-- Words between one function and the next; no public clause cites them.
pub mod Lattices
pub mod Parsers
pub mod Charters
pub mod Trees
pub mod Explainers
