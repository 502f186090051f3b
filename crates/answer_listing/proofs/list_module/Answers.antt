-- `answer_listing::list_module` meets its contract. Assumes nothing.
use Rattle.answer_listing.proofs.Cases.{cases}
use Rattle.answer_listing.specs.Listed.{listed_answered}
use borrow.Author.Rules.{rules}
use Rattle.answer_listing.proofs.list_module.Goals as goal

pub write_listing-requires : goal.write_listing-requires
write_listing-requires c = search cases

pub returns-in-Some : goal.returns-in-Some
returns-in-Some c = search (listed_answered, c.read_form-f.ensures, c.table_start-table.ensures, c.requires, rules)

pub returns-in-None : goal.returns-in-None
returns-in-None c = search cases
