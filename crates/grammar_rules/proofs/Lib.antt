pub mod Leafed
pub mod Found
pub mod Consistent
pub mod Wholes
pub mod Lined
pub mod Calls
pub mod Kept
pub mod Sames
