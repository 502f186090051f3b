pub mod Placed
pub mod Own
pub mod Seen
