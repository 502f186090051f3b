pub mod Typing
pub mod Meant
pub mod Terms
