-- What the visit knows as it goes, its lists and heights, and the rows that it leaves.
pub mod Going
pub mod Heights
pub mod Renumbering
