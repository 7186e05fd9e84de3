pub mod ListLemmas
pub mod WordLemmas
