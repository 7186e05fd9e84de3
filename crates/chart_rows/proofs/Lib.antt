pub mod Sat
pub mod Moved
pub mod Found
