pub mod Trees
pub mod Forms
pub mod Views
pub mod Inner
