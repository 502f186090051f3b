pub mod Clashes
pub mod Consistent
pub mod Made
pub mod Checked
pub mod Steps
