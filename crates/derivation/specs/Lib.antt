pub mod Trees
pub mod Views
pub mod Order
pub mod Text
pub mod Counts
pub mod Counted
