pub mod Model
pub mod Steps
