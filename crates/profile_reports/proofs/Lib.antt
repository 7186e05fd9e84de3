pub mod Counting
pub mod Outcomes
pub mod Reports
pub mod LineLemmas
pub mod Taking
pub mod Numbers
pub mod LineKinds
pub mod Bounds
