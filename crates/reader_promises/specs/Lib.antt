pub mod Lines
pub mod Front
pub mod Shown
pub mod Answers
