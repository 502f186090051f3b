pub mod Boxes
pub mod Flat
pub mod Meant
