pub mod Cases
pub mod Front
