pub mod Kept
pub mod Nodes
pub mod Keeps
pub mod Sound
