pub mod Slots
pub mod Unions
