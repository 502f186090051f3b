-- lists as sets, and the union of normal forms told without order
pub mod Sets
pub mod AnyOrder
-- one module, and the whole of a call
pub mod Order
pub mod ImportOrder
