pub mod Rooms
pub mod Notes
pub mod Forms
pub mod Stages
