pub mod ToldLemmas
pub mod TextLemmas
pub mod ShownLemmas
pub mod Spaced
pub mod LoadLemmas
pub mod FaultLemmas
