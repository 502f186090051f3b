-- a change of names, and the statement
pub mod Changing
pub mod Replacing
-- what respects such a change, and what minds no order
pub mod Exchanging
pub mod Reordering
pub mod VisibleAlike
pub mod Alike
pub mod OwnAlike
pub mod ModulesAlike
-- the names of a normal form
pub mod NamesFrom
-- the proof
pub mod Replaced
