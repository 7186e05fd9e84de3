pub mod Few
pub mod Kept
pub mod GivenAt
pub mod Judged
pub mod Reported
pub mod ToldReports
pub mod NotCome
pub mod BatchLaws
