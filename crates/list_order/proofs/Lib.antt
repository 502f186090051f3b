pub mod CompareCases
pub mod SortCases
pub mod CopyCases
