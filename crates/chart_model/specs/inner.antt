pub mod Begun
pub mod Joined
pub mod TableLaws
