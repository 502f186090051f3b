-- `form_comparing::sorts::same_signature` meets its contract.
-- Assumes nothing.
use Rattle.form_rows.proofs.Auto.{on}
use Rattle.form_comparing.proofs.Alike.{agree_on, agree_off, agree_all, type_inputs, type_output}
use borrow.Author.Rules.{rules}
use Rattle.form_comparing.proofs.sorts.same_signature.Goals as goal

pub returns-then-not-same_sort : goal.returns-then-not-same_sort
returns-then-not-same_sort c = search (type_inputs, agree_off, rules)

pub loop-i-preserved : goal.loop-i-preserved
loop-i-preserved c = search (on, agree_on, rules)

pub returns : goal.returns
returns c = search (type_output, agree_all, rules)
