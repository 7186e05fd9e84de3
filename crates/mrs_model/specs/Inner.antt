pub mod Bindings
pub mod Elements
pub mod Items
pub mod Search
pub mod State
