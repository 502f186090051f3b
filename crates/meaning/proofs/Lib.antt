pub mod VisiblyLaws
pub mod OrderLaws
pub mod ListingOrder
pub mod TextsLaws
