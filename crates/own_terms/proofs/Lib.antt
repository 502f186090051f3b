pub mod Cases
pub mod Operators
pub mod Words
pub mod Arguments
pub mod Row
pub mod Deep
