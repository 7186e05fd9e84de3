pub mod Wholes
pub mod Laws
pub mod Inner
pub mod Sieves
pub mod PrunedLaws
pub mod Views
pub mod TreeInner
