-- Words between one function and the next; no public clause cites them.
pub mod Placed
pub mod Owing
pub mod Rooting
pub mod Following
pub mod Wholes
