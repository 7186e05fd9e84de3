pub mod Rewriters
pub mod Faults
pub mod Reports
pub mod Answers
pub mod Transferring
pub mod Views
pub mod Inner
