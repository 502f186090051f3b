-- `text_marks::inside_end` meets its contract.
-- Assumes nothing.
use mathlib.Core.Path.{◌≡◌}
use Rattle.meaning.specs.Tokens.{run_end, in_comment}
use Rattle.text_marks.proofs.inside_end.Given as goal

abbrev pub invariant-loop-i : goal.invariant-loop-i
invariant-loop-i l = run_end in_comment l.text l.at ≡ run_end in_comment l.text l.i
