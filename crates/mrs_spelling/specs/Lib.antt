pub mod Forms
pub mod Reading
pub mod Grammar
pub mod Conditions
pub mod Faults
pub mod Scanning
pub mod Inner
