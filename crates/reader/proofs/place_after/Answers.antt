-- `reader::place_after` meets its contract: it goes by the cases of the definition.
-- Assumes nothing.
use Rattle.reader.proofs.Cases.{after_keyed, after_end, after_bad}
use borrow.Author.Rules.{rules}
use Rattle.reader.proofs.place_after.Goals as goal

pub returns-in-Keyed : goal.returns-in-Keyed
returns-in-Keyed c = search (after_keyed, rules)

pub returns-in-End : goal.returns-in-End
returns-in-End c = search (after_end, rules)

pub returns-in-Bad : goal.returns-in-Bad
returns-in-Bad c = search (after_bad, rules)
