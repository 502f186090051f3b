pub mod FormalCases
pub mod BindingCases
