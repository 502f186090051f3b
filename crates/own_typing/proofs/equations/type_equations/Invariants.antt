-- `own_typing::equations::type_equations` meets its contract.
-- Assumes nothing.
use Prim.Native.Nat.{◌-◌}
use Rattle.text_names.specs.Joint.{joint}
use Rattle.own_typing.proofs.Passes.{Onward}
use Rattle.own_typing.proofs.equations.type_equations.Given as goal

abbrev pub invariant-loop-position : goal.invariant-loop-position
invariant-loop-position l =
    Onward (joint l.library l.text) l.k l.m l.i l.q l.initial.work (l.k.tape - l.position) l.position l.at l.free l.work
