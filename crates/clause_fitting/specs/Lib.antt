pub mod Unpaired
pub mod Fits
pub mod Formals
pub mod Bound
