pub mod Translation
pub mod Moved
pub mod MovedLaws
