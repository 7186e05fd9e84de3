pub mod Shapes
pub mod Daughters
