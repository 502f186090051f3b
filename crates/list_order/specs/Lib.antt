pub mod Orders
pub mod Tables
pub mod Copying
pub mod Arranged
pub mod Lines
