-- Words between one function and the next; no public clause cites them.
pub mod Matching
pub mod Trimming
pub mod Replacing
pub mod Present
pub mod Running
