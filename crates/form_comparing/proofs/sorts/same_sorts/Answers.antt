-- `form_comparing::sorts::same_sorts` meets its contract.
-- Assumes nothing.
use Rattle.form_rows.proofs.Auto.{on, done}
use Rattle.form_comparing.proofs.Alike.{agree_on, agree_off, agree_end}
use borrow.Author.Rules.{rules}
use Rattle.form_comparing.proofs.sorts.same_sorts.Goals as goal

pub returns-then-not-same_sort : goal.returns-then-not-same_sort
returns-then-not-same_sort c = search (done, agree_off, rules)

pub loop-i-preserved : goal.loop-i-preserved
loop-i-preserved c = search (on, agree_on, rules)

pub returns : goal.returns
returns c = search (done, agree_end, rules)
