pub mod Standing
pub mod Gather
pub mod Pairing
pub mod Complete
pub mod Steps
pub mod Index
pub mod Peers
pub mod Unique
pub mod Leaves
pub mod Trees
pub mod Whole
pub mod Sizes
pub mod Lower
pub mod Fewer
pub mod Counted
pub mod Answer
pub mod Decided
pub mod Late
pub mod Next
pub mod Kept
pub mod Order
mod Within
mod TableLemmas
