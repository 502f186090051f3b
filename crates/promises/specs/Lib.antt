-- the statements
pub mod VisiblePart
pub mod Demand
-- names among names
pub mod Members
-- a listing's bytes and its lines: no name has an LF
pub mod Spelling
pub mod Tied
-- two calls side by side
pub mod TwoCalls
-- demand 3
pub mod Public
pub mod Lines
-- a call, room apart
pub mod Proof
-- the other reading of "accepted"
pub mod Alone
-- from less, and for the desk
pub mod Stored
-- one listing for each accepted normal form
pub mod ListingLaws
pub mod SameListing
pub mod Told
pub mod Parts
pub mod Sound
pub mod WellTyped
pub mod TypedBinding
pub mod TypedOwn
pub mod TermsTold
pub mod SoundEvaluation
pub mod AcceptedForms
pub mod PlainText
pub mod OneListing
-- where two hyphens begin a comment
pub mod Hyphens
-- the count of modules
pub mod Counts
pub mod Library
-- the numbers that are given, and their culprits
pub mod ReadNumbers
pub mod Given
-- where 16 was told, one of 22 to 27 is
pub mod OldBinding
pub mod Mistakes
-- no import goes in a circle: 20 is no number
pub mod NoCycle
-- a module's own parameters are new
pub mod Homes
