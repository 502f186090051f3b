pub mod ListLaws
pub mod Absorb
pub mod Turns
