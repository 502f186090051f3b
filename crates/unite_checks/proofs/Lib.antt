pub mod SearchCases
pub mod VerdictCases
pub mod Checks
