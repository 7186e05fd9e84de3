pub mod Books
pub mod TypeReports
pub mod Expansions
pub mod Checks
pub mod Commands
pub mod Accepted
