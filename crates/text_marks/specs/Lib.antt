pub mod Hyphens
