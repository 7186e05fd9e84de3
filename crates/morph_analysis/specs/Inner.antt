pub mod Adding
pub mod Bits
pub mod Growing
pub mod Routes
pub mod Searching
pub mod Lines
pub mod Orders
