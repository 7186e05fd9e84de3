pub mod KindLemmas
pub mod PlaceLemmas
pub mod SignLemmas
pub mod LawLemmas
