pub mod Sentences
pub mod Reports
