pub mod Paths
pub mod Looking
pub mod Asked
pub mod Faults
pub mod Places
pub mod Laws
pub mod Inner
pub mod Settled
