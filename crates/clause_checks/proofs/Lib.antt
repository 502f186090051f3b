pub mod PairCases
pub mod RowSearches
pub mod RenamingCases
pub mod NoteCases
pub mod ParameterCases
