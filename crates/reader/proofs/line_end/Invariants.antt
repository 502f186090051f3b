-- `reader::line_end` meets its contract.
-- Assumes nothing.
use mathlib.Core.Path.{◌≡◌}
use Rattle.meaning.specs.Tokens.{run_end}
use Rattle.meaning.specs.Answer.{in_line}
use Rattle.reader.proofs.line_end.Given as goal

abbrev pub invariant-loop-i : goal.invariant-loop-i
invariant-loop-i l = run_end in_line l.listing l.at ≡ run_end in_line l.listing l.i
