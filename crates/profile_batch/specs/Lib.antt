pub mod Results
pub mod Batches
pub mod Views
pub mod Inner
