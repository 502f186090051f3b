-- `own_typing::equations::type_marked` meets its contract.
-- Assumes nothing.
use Prim.Native.Nat.{◌-◌}
use Rattle.text_names.specs.Joint.{joint}
use Rattle.own_typing.proofs.Passes.{Passing}
use Rattle.own_typing.proofs.equations.type_marked.Given as goal

abbrev pub invariant-loop : goal.invariant-loop
invariant-loop l =
    Passing (joint l.library l.text) l.k l.role l.end l.left l.i l.q l.n l.initial.work (l.left - l.counter) l.at l.free l.count l.work
