pub mod AnswerLemmas
pub mod FreeLemmas
