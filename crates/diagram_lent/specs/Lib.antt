pub mod Drawn
pub mod Lent
