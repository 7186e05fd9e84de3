pub mod Ranks
pub mod Walking
pub mod Elements
pub mod OneOutcome
pub mod Numbers
