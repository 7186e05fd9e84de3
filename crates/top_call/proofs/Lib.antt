pub mod Words
pub mod Arms
pub mod Sized
