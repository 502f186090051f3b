-- `text_marks::inside_end` meets its contract.
-- Assumes nothing.
use Rattle.meaning.specs.Tokens.{run_end, in_comment}
use Rattle.text_names.proofs.Auto.{on, done, over, told}
use Rattle.text_names.proofs.Runs.{run_on, run_stop, run_ends}
use borrow.Author.Rules.{rules}
use Rattle.text_marks.proofs.inside_end.Goals as goal

pub loop-i-preserved : goal.loop-i-preserved
loop-i-preserved c = search (on, run_on in_comment, told, rules)

pub returns-then-not-in_comment : goal.returns-then-not-in_comment
returns-then-not-in_comment c = search (done, run_stop in_comment, told, rules)

pub returns : goal.returns
returns c = over (run_end in_comment c.args.text.now) _ (run_ends in_comment _) _ _ _ c.loop-i.invariant c.loop-i.auto.i-end c.loop-i-test.false c.max.ensures
