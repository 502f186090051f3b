-- `own_declarations::checks::variables_right` meets its contract.
-- Assumes nothing.
use mathlib.Core.Path.{◌≡◌}
use Prim.Native.Nat.{◌-◌}
use Rattle.text_names.specs.Joint.{joint}
use Rattle.form.specs.Memory.{part}
use Rattle.own_repeats.specs.Scans.{walked}
use Rattle.own_declarations.specs.Checked.{variable_at}
use Rattle.own_declarations.proofs.checks.variables_right.Given as goal

abbrev pub invariant-loop-i : goal.invariant-loop-i
invariant-loop-i l = walked (variable_at (joint l.library l.text) (part l.work 0 l.t) l.work l.own l.b l.n) l.own.from (l.end - l.own.from) ≡ walked (variable_at (joint l.library l.text) (part l.work 0 l.t) l.work l.own l.b l.n) l.i (l.end - l.i)
