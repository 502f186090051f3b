-- `reader::line_end` meets its contract.
-- Assumes nothing.
use Rattle.meaning.specs.Answer.{in_line}
use Rattle.text_names.proofs.Auto.{on, done}
use Rattle.text_names.proofs.Runs.{run_on, run_stop, run_ends}
use Rattle.reader.proofs.Cases.{line_on, line_off}
use borrow.Author.Rules.{rules}
use Rattle.reader.proofs.line_end.Goals as goal

pub returns-then-listing-i-eq10 : goal.returns-then-listing-i-eq10
returns-then-listing-i-eq10 c = search (done, run_stop in_line, line_off, rules)

pub loop-i-preserved : goal.loop-i-preserved
loop-i-preserved c = search (on, run_on in_line, line_on, rules)

pub returns : goal.returns
returns c = search (done, run_ends in_line, rules)
