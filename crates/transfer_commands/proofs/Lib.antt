pub mod Answered
pub mod OneFiles
pub mod OneAnswers
pub mod TransferLaws
pub mod Exits
pub mod SkipLemmas
