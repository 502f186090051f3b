pub mod Decided
pub mod Numbered
pub mod Meant
pub mod Lying
