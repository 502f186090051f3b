-- `ask_alike::same_entries` meets its contract.
-- Assumes nothing.
use Prim.Native.Nat.{◌-◌}
use Rattle.text_names.specs.Joint.{joint}
use Rattle.ask_alike.proofs.Cases.{Comparing}
use Rattle.ask_alike.proofs.same_entries.Given as goal

abbrev pub invariant-loop : goal.invariant-loop
invariant-loop l =
    Comparing (joint l.library l.text) l.tape (joint l.behind l.other) l.new_tape l.i l.j l.n l.p l.q (l.n - l.counter)
