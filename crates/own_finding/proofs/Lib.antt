pub mod Seeks
pub mod Cases
