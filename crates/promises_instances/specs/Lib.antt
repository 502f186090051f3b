-- demand 3: two texts that meet the premises, and two for each premise that fail by it alone
pub mod Instance
pub mod Premises
-- what a listing does not tell
pub mod NotTold
-- texts that meet the premises of the replacement, and of import order
pub mod ReplacedInstance
pub mod OrderInstance
