pub mod Laws
pub mod Rows
pub mod Digits
pub mod Cases
