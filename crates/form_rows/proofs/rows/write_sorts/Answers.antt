-- `form_rows::rows::write_sorts` meets its contract.
-- Assumes nothing.
use Rattle.form_rows.proofs.Moves.{store_none, store_fits, store_on, store_long, store_done}
use borrow.Author.Rules.{rules}
use Rattle.form_rows.proofs.rows.write_sorts.Goals as goal

pub loop-i-init : goal.loop-i-init
loop-i-init c = search (store_none, rules)

pub overflow_add-b : goal.overflow_add-b
overflow_add-b c = search (store_fits, rules)

pub loop-i-preserved : goal.loop-i-preserved
loop-i-preserved c = search (store_on, rules)

pub shape_of-w : goal.shape_of-w
shape_of-w c = search (store_long, rules)

pub returns : goal.returns
returns c = search (store_done, rules)
