pub mod Parameters
pub mod ParameterLaws
pub mod Joined
pub mod Checking
pub mod JoinLaws
