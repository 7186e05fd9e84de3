pub mod PlaceLemmas
pub mod ReadableLemmas
pub mod DaughterLemmas
pub mod EntryLemmas
pub mod CountLemmas
