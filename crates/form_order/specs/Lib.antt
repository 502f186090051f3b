pub mod Order
pub mod Sorting
pub mod Ordered
