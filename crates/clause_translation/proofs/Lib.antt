pub mod FormalItems
pub mod NewNames
pub mod MovedRows
