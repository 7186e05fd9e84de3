pub mod Renamed
pub mod SameInputs
pub mod OneAnswers
pub mod GenerateLaws
pub mod Answered
pub mod Served
