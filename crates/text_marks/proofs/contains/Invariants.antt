-- `text_marks::contains` meets its contract.
-- Assumes nothing.
use mathlib.Core.Path.{◌≡◌}
use lib.ListN.{drop}
use Rattle.meaning.specs.Tokens.{is_in}
use Rattle.text_marks.proofs.contains.Given as goal

abbrev pub invariant-loop-x : goal.invariant-loop-x
invariant-loop-x l = is_in l.set l.b ≡ is_in (drop l.x-index l.set) l.b
