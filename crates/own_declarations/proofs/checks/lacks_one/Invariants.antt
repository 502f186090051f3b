-- `own_declarations::checks::lacks_one` meets its contract.
-- Assumes nothing.
use mathlib.Core.Path.{◌≡◌}
use Prim.Native.Nat.{◌-◌}
use Rattle.text_names.specs.Joint.{joint}
use Rattle.form.specs.Memory.{part}
use Rattle.own_repeats.specs.Scans.{found}
use Rattle.own_declarations.specs.Checked.{lacks}
use Rattle.own_declarations.proofs.checks.lacks_one.Given as goal

abbrev pub invariant-loop-j : goal.invariant-loop-j
invariant-loop-j l = found (lacks (joint l.library l.text) (part l.work 0 l.t) l.work l.own l.hidden) l.i (l.end - l.i) ≡ found (lacks (joint l.library l.text) (part l.work 0 l.t) l.work l.own l.hidden) l.j (l.end - l.j)
