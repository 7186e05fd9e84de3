pub mod Outside
pub mod Lines
pub mod Shelves
pub mod Devices
pub mod Named
