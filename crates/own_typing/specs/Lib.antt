pub mod Equations
pub mod Sides
pub mod Chosen
pub mod Equated
pub mod Rows
pub mod Listed
pub mod Typed
