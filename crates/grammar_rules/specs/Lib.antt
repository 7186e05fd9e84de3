pub mod Leafed
pub mod Laws
pub mod Views
pub mod Lined
pub mod Lines
pub mod Remembered
pub mod LineLeaves
pub mod Told
