-- `form_rows::rows::read_sorts` meets its contract.
-- Assumes nothing.
use Rattle.form_rows.proofs.Moves.{gather_none, gather_fits, gather_on, gather_done}
use borrow.Author.Rules.{rules}
use Rattle.form_rows.proofs.rows.read_sorts.Goals as goal

pub loop-i-init : goal.loop-i-init
loop-i-init c = search (gather_none, rules)

pub overflow_add-b : goal.overflow_add-b
overflow_add-b c = search (gather_fits, rules)

pub loop-i-preserved : goal.loop-i-preserved
loop-i-preserved c = search (gather_on, rules)

pub returns : goal.returns
returns c = search (gather_done, rules)
