pub mod GrowingLemmas
pub mod SpreadLemmas
pub mod CrossingLemmas
pub mod SortLemmas
pub mod KindLemmas
