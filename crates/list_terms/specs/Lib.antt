pub mod Terms
pub mod Meant
pub mod Pointed
