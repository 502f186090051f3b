-- `text_marks::skip` meets its contract. The turns left are the fuel of the definition.
-- Assumes nothing.
use mathlib.Core.Path.{◌≡◌}
use lib.ListN.{length}
use Rattle.meaning.specs.Tokens.{skip}
use Rattle.text_marks.proofs.skip.Given as goal

abbrev pub invariant-loop-left : goal.invariant-loop-left
invariant-loop-left l = skip l.text (length l.text) l.at ≡ skip l.text l.left l.i
