pub mod Tape
pub mod Roles
