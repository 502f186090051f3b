pub mod Answered
pub mod Listed
