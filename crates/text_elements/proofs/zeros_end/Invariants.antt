-- `text_elements::zeros_end` meets its contract.
-- Assumes nothing.
use Prim.Native.Nat.{◌+◌}
use mathlib.Core.Path.{◌≡◌}
use lib.ListN.{drop}
use Rattle.text_spelling.specs.Word.{name_of}
use Rattle.text_spelling.specs.Joint.{joint}
use Rattle.text_runs.specs.Runs.{zeros_of}
use Rattle.text_elements.proofs.zeros_end.Given as goal

abbrev pub invariant-loop-e : goal.invariant-loop-e
invariant-loop-e l = l.i + zeros_of (drop l.i (name_of (joint l.library l.text) l.w)) ≡ l.e + zeros_of (drop l.e (name_of (joint l.library l.text) l.w))
