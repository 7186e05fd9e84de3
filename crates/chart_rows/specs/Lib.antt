pub mod Sitting
