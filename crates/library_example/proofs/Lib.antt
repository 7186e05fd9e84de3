pub mod Asking
pub mod Cases
