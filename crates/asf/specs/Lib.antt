pub mod Steps
pub mod Meant
pub mod ReadNames
pub mod Promises
pub mod Demand
pub mod Replaced
pub mod ImportOrder
