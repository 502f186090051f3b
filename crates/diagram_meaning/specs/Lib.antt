-- what is drawn
pub mod Diagram
-- the answer of a call
pub mod Calls
pub mod Answer
pub mod Opened
-- what is computed of it: the lines up to a limit
pub mod Bounded
-- each path of import expressions, exactly once
pub mod Paths
