pub mod Bounded
pub mod Paths
