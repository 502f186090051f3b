pub mod Scans
pub mod Once
