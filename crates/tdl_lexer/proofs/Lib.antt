pub mod Complete
pub mod Exists
pub mod Sound
pub mod Spans
pub mod Unique
