pub mod Lines
pub mod Fit
pub mod Parts
pub mod Pointed
pub mod Meant
pub mod Lent
