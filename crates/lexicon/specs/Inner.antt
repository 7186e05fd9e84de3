-- Words between one function and the next; no public clause cites them.
pub mod Index
pub mod Empty
pub mod Places
