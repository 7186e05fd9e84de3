-- Words between one function and the next; no public clause cites them.
pub mod Ends
pub mod Chains
pub mod Walks
pub mod Structures
pub mod Building
pub mod Found
