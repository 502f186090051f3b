pub mod Keeping
pub mod Environment
pub mod Growing
pub mod Starting
