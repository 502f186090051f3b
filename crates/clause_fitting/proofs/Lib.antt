pub mod SortCases
pub mod FormalCases
pub mod ItemCases
