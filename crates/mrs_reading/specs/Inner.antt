pub mod Stages
pub mod Tables
pub mod Built
pub mod Reading
pub mod Placing
pub mod Predications
