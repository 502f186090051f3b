-- definitions: lists and numbers, then document 01 in its order, beginning with the text
pub mod Lists
pub mod Numbers
pub mod Names
pub mod Tokens
pub mod Syntax
pub mod Grammar
pub mod Texts
-- origins, and normal forms
pub mod Origins
pub mod Normal
-- evaluating
pub mod Checks
pub mod Clauses
pub mod Own
pub mod Typing
pub mod Evaluate
pub mod Reached
-- the listing, the answer and what is lent, and the listing reader
pub mod Written
pub mod Listing
pub mod Answer
pub mod Contract
pub mod Reader
-- opened as a whole, and samples computed
pub mod Opened
pub mod Samples
-- proved of the definitions: choices, orders and outcomes, what is read, a binding's pairs, visible results from visible parts alone, one text
pub mod Laws
pub mod ElementLaws
pub mod OrderLaws
pub mod ListingOrder
pub mod OutcomeLaws
pub mod TextsLaws
pub mod PairLaws
pub mod VisiblyLaws
pub mod Base
