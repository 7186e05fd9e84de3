-- Words between one function and the next; no public clause cites them.
pub mod Leafed
pub mod Lined
pub mod Known
pub mod Put
