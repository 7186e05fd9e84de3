pub mod Moving
pub mod Single
pub mod Completing
pub mod Scanned
pub mod Tested
pub mod Fitting
pub mod Firsts
pub mod Placed
