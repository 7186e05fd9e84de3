pub mod Answered
pub mod OneAnswers
pub mod ScopeLaws
