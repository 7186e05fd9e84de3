pub mod Typings
pub mod SettleViews
pub mod Outcomes
