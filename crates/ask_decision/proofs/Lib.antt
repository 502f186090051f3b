pub mod Changed
pub mod Exact
pub mod Held
pub mod Samples
