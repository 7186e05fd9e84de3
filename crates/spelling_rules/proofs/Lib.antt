pub mod Lists
pub mod RewriteLemmas
pub mod FormLemmas
pub mod UndoLemmas
pub mod TableLemmas
pub mod OrderLemmas
pub mod BoundLemmas
