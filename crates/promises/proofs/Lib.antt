pub mod ListingTie
pub mod Reaches
pub mod Tied
pub mod Demanded
pub mod Alone
pub mod Stored
