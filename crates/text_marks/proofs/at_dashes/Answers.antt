-- `text_marks::at_dashes` meets its contract.
-- Assumes nothing.
use Rattle.text_marks.proofs.Cases.{dashes_law}
use borrow.Author.Rules.{rules}
use Rattle.text_marks.proofs.at_dashes.Goals as goal

pub returns : goal.returns
returns c = search (dashes_law, rules)
