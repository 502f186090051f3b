pub mod Orders
pub mod Runs
pub mod RunLaws
pub mod Canonical
pub mod Turns
pub mod Codes
