pub mod Lists
pub mod Loops
pub mod Shapes
pub mod Rows
pub mod Flat
