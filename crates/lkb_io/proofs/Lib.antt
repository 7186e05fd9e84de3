pub mod Told
pub mod Ends
pub mod Greatest
pub mod Files
pub mod Texts
