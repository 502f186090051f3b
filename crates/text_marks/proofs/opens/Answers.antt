-- `text_marks::opens` meets its contract.
-- Assumes nothing.
use Rattle.text_names.proofs.Auto.{told}
use Rattle.text_marks.proofs.Cases.{opens_after, opens_not}
use borrow.Author.Rules.{rules}
use Rattle.text_marks.proofs.opens.Goals as goal

pub returns-then-is_layout : goal.returns-then-is_layout
returns-then-is_layout c = search (opens_after, told, rules)

pub returns : goal.returns
returns c = search (opens_not, told, rules)
