pub mod ListLemmas
pub mod Bytes
pub mod Numbered
pub mod RuleLemmas
