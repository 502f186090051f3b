pub mod Auto
pub mod Runs
pub mod Compared
pub mod AtOnce
pub mod Joined
