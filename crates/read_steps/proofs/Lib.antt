pub mod Laws
pub mod Cases
pub mod Lists
pub mod Rules
