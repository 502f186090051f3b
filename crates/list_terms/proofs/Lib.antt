pub mod TermCases
pub mod PlaceCases
