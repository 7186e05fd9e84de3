-- Words between one function and the next; no public clause cites them.
pub mod Rewriting
pub mod Undoing
pub mod Tables
pub mod Keeping
