pub mod Modules
pub mod Members
pub mod Roles
pub mod ModuleLaws
pub mod ReachedLaws
pub mod Meant
