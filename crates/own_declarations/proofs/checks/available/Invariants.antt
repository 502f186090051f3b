-- `own_declarations::checks::available` meets its contract.
-- Assumes nothing.
use mathlib.Core.Path.{◌≡◌}
use Prim.Native.Nat.{◌-◌}
use Rattle.text_names.specs.Joint.{joint}
use Rattle.form.specs.Memory.{part}
use Rattle.own_repeats.specs.Scans.{walked}
use Rattle.own_declarations.specs.Checked.{available_at}
use Rattle.own_declarations.proofs.checks.available.Given as goal

abbrev pub invariant-loop-i : goal.invariant-loop-i
invariant-loop-i l = walked (available_at (joint l.library l.text) (part l.work 0 l.t) l.work l.own) l.own.from (l.end - l.own.from) ≡ walked (available_at (joint l.library l.text) (part l.work 0 l.t) l.work l.own) l.i (l.end - l.i)
