pub mod Further
pub mod Views
pub mod Inner
