pub mod Alike
pub mod AlikeLaws
