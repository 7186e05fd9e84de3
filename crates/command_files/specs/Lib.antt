pub mod Told
pub mod Shown
pub mod Texts
pub mod FaultTexts
pub mod Causes
pub mod Grammars
pub mod Views
