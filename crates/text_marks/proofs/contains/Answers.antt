-- `text_marks::contains` meets its contract.
-- Assumes nothing.
use borrow.Author.Rules.{rules}
use Rattle.text_names.proofs.Auto.{on, done}
use Rattle.text_marks.proofs.Cases.{in_hit, in_miss, in_end}
use Rattle.text_marks.proofs.contains.Goals as goal

pub returns-then-b-x : goal.returns-then-b-x
returns-then-b-x c = search (done, in_hit, rules)

pub loop-x-preserved : goal.loop-x-preserved
loop-x-preserved c = search (on, in_miss, rules)

pub returns : goal.returns
returns c = search (done, in_end, rules)
