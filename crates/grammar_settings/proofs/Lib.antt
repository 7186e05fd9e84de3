pub mod EntryLemmas
pub mod FormLemmas
pub mod LineLemmas
pub mod SettingsLemmas
