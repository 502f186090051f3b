pub mod Nodes
pub mod Limits
pub mod HiddenItems
pub mod HiddenEvaluated
