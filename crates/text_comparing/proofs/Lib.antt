pub mod Plain
pub mod AtOnce
