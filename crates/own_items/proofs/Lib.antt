pub mod Named
pub mod Joins
pub mod Whole
pub mod Told
