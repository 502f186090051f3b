-- `input_lines::line_end` meets its contract.
-- Assumes nothing.
use borrow.Author.Rules.{rules}
use Rattle.meaning.specs.Answer.{in_line}
use Rattle.text_names.proofs.Auto.{done}
use Rattle.text_names.proofs.Runs.{run_ends}
use Rattle.input_lines.proofs.Cases.{cases}
use Rattle.input_lines.proofs.line_end.Goals as goal

pub returns-then-input-i-eq10 : goal.returns-then-input-i-eq10
returns-then-input-i-eq10 c = search cases

pub loop-i-preserved : goal.loop-i-preserved
loop-i-preserved c = search cases

pub returns : goal.returns
returns c = search (done, run_ends in_line, rules)
