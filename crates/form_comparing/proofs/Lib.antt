pub mod Told
pub mod Alike
