-- `text_marks::skip` meets its contract. The turns left are the fuel of the definition.
-- Assumes nothing.
use Rattle.text_names.proofs.Auto.{on, done}
use Rattle.text_marks.proofs.Cases.{skip_stop, skip_on, skip_out}
use borrow.Author.Rules.{rules}
use Rattle.text_marks.proofs.skip.Goals as goal

pub returns-then-k-j : goal.returns-then-k-j
returns-then-k-j c = search (done, skip_stop, rules)

pub loop-left-preserved : goal.loop-left-preserved
loop-left-preserved c = search (on, skip_on, rules)

pub returns : goal.returns
returns c = search (done, skip_out, rules)
