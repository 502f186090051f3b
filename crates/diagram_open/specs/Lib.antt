pub mod Numbers
pub mod Open
pub mod Turns
