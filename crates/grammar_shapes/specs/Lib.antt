pub mod Ruled
pub mod Cutting
pub mod Spanned
pub mod SpanLaws
pub mod Shaped
pub mod Inner
pub mod Systems
