pub mod Shapes
pub mod Frames
pub mod Stops
pub mod Uses
pub mod Near
pub mod Closed
pub mod Begun
