pub mod Steps
pub mod Named
pub mod Lying
pub mod Meant
