-- What the code keeps.
pub mod Generations
pub mod Indexes
pub mod Outlines
pub mod RuleRows
pub mod Told
pub mod Known
pub mod Homes
