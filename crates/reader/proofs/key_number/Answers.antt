-- `reader::key_number` meets its contract.
-- Assumes nothing.
use Rattle.reader.specs.Places.{key_number}
use borrow.Author.Rules.{rules}
use Rattle.meaning.specs.Listing.{listing_keys}
use Rattle.reader.proofs.key_number.Goals as goal

pub returns : goal.returns
unfolding key_number listing_keys
returns c = search rules
