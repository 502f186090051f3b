-- entries cut by their roles
pub mod Parts
-- what they tell
pub mod Terms
pub mod Told
-- what is compared on two tapes
pub mod Compared
