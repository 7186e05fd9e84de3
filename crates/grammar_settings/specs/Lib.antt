pub mod Forms
pub mod Kept
pub mod SettingsFiles
pub mod Settled
pub mod SettingsViews
pub mod Groups
