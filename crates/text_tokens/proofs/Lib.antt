pub mod Cases
pub mod Keywords
pub mod Bounds
pub mod Spelled
