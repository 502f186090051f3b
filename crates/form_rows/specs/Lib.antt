pub mod Entries
pub mod Rows
pub mod Kinds
pub mod RowLaws
