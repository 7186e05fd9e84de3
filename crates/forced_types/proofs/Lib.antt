mod ForcedLemmas
pub mod VerdictLemmas
mod ArcLemmas
mod EntryLemmas
mod SoundLemmas
mod StepLemmas
mod ClosedLemmas
mod TypeLemmas
mod ClosedSteps
mod ToldLemmas
mod LoadLemmas
mod SearchLemmas
mod VerdictSteps
mod RangeLemmas
mod DistinctLemmas
mod CountLemmas
