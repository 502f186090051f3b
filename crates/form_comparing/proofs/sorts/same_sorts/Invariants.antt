-- `form_comparing::sorts::same_sorts` meets its contract.
-- Assumes nothing.
use Rattle.form_comparing.proofs.Alike.{AgreeFrom}
use mathlib.Core.Path.{◌≡◌}
use Rattle.text_names.specs.Joint.{joint}
use Rattle.form_comparing.proofs.sorts.same_sorts.Given as goal

abbrev pub invariant-loop-i : goal.invariant-loop-i
invariant-loop-i l = AgreeFrom (joint l.library l.text) l.tape l.a l.b l.n 0 ≡ AgreeFrom (joint l.library l.text) l.tape l.a l.b l.n l.i
