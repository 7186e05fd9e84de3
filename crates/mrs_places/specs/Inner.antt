-- Words between one function and the next; no public clause cites them.
pub mod Walked
pub mod Lists
