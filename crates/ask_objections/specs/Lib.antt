pub mod Objections
-- a module that a tape spells
pub mod Spelled
-- what is told means
pub mod Meant
