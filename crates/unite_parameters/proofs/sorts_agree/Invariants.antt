-- `unite_parameters::sorts_agree` meets its contract.
-- Assumes nothing.
use Rattle.unite_parameters.proofs.Cases.{Agreeing}
use Prim.Native.Nat.{◌-◌}
use Rattle.text_names.specs.Joint.{joint}
use Rattle.form.specs.Memory.{part}
use Rattle.form.specs.Forms.{visible_at}
use Rattle.unite_parameters.proofs.sorts_agree.Given as goal

abbrev pub invariant-loop-f : goal.invariant-loop-f
invariant-loop-f l = Agreeing (joint l.library l.text) (part l.work 0 l.t) (visible_at (joint l.library l.text) (part l.work 0 l.t) l.work l.f) (visible_at (joint l.library l.text) (part l.work 0 l.t) l.work l.g) l.kind l.sorts l.at l.next

abbrev pub decreases-loop-f : goal.decreases-loop-f
decreases-loop-f l = 9 - l.next
