-- Words between one function and the next; no public clause cites them.
pub mod Memos
pub mod Members
pub mod Making
pub mod Classes
