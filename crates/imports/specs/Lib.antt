pub mod Spelling
pub mod Clausal
pub mod Expressions
