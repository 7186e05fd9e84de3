pub mod Items
pub mod SelfTests
pub mod Inner
pub mod Grammar
pub mod Lines
pub mod Made
pub mod WorkloadInner
pub mod Summaries
