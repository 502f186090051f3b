pub mod Auto
pub mod Scans
pub mod Told
pub mod Moves
