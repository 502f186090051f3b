-- demand 3 with the changed modules asked again
pub mod Again
-- the decision: whether two modules are the same, the reasons, which modules to ask again, and that it is exact
pub mod Same
pub mod Reasons
pub mod Decide
pub mod Changed
pub mod Exact
-- edit after edit, by the decision
pub mod Held
-- computed
pub mod Samples
