-- `form_comparing::declarations::same_names` meets its contract.
-- Assumes nothing.
use Rattle.form_rows.proofs.Auto.{on, done}
use Rattle.form_comparing.proofs.Told.{compare_none, compare_on, compare_off, compare_end}
use borrow.Author.Rules.{rules}
use Rattle.form_comparing.proofs.declarations.same_names.Goals as goal

pub loop-k-init : goal.loop-k-init
loop-k-init c = search (compare_none, rules)

pub returns-then-not-same_name_at : goal.returns-then-not-same_name_at
returns-then-not-same_name_at c = search (done, compare_off, rules)

pub loop-k-preserved : goal.loop-k-preserved
loop-k-preserved c = search (on, compare_on, rules)

pub returns : goal.returns
returns c = search (done, compare_end, rules)
