pub mod Reports
pub mod Answers
pub mod Scoping
pub mod Inner
