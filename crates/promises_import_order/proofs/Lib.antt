pub mod ImportOrder
pub mod Order
