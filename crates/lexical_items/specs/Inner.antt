-- Words between one function and the next; no public clause cites them.
pub mod Kept
pub mod Feeding
pub mod Making
pub mod Keyed
pub mod Routes
pub mod Grown
