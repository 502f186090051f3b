pub mod Auto
pub mod Same
pub mod Forms
pub mod Joined
