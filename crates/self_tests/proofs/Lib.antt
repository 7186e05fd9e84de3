pub mod CountedLines
pub mod GivenAt
pub mod WorkloadFaults
pub mod Reported
pub mod OneSummary
pub mod Joined
pub mod Text
