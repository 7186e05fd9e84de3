pub mod Entries
pub mod Sound
pub mod Closed
pub mod Counting
pub mod Apart
pub mod Told
pub mod Search
