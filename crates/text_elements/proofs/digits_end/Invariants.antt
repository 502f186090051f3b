-- `text_elements::digits_end` meets its contract.
-- Assumes nothing.
use Prim.Native.Nat.{◌+◌}
use mathlib.Core.Path.{◌≡◌}
use lib.ListN.{drop}
use Rattle.text_spelling.specs.Word.{name_of}
use Rattle.text_spelling.specs.Joint.{joint}
use Rattle.text_runs.specs.Runs.{digits_of}
use Rattle.text_elements.proofs.digits_end.Given as goal

abbrev pub invariant-loop-e : goal.invariant-loop-e
invariant-loop-e l = l.i + digits_of (drop l.i (name_of (joint l.library l.text) l.w)) ≡ l.e + digits_of (drop l.e (name_of (joint l.library l.text) l.w))
