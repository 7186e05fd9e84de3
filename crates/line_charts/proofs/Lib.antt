pub mod KeyLaws
pub mod MakerLaws
pub mod OneList
pub mod OverLeaves
pub mod OneForest
pub mod Answered
pub mod NamedCharts
pub mod KeyLemmas
pub mod NamedLines
pub mod RootedLemmas
pub mod Reaches
pub mod Told
mod Lists
mod HostKeys
mod Permuted
mod Rising
mod Numbered
mod RowSteps
mod RulePlaces
mod Numbering
mod Made
mod HostLemmas
mod Forests
mod Steps
mod Over
mod LineSteps
mod UnknownSteps
