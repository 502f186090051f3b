-- `unite_nodes::same_nodes` meets its contract.
-- Assumes nothing.
use Rattle.unite_nodes.proofs.Runs.{Running}
use Prim.Native.Nat.{◌+◌}
use Rattle.text_names.specs.Joint.{joint}
use Rattle.unite_nodes.proofs.same_nodes.Given as goal

abbrev pub invariant-loop-k : goal.invariant-loop-k
invariant-loop-k l = Running (joint l.library l.text) l.t l.work l.visible l.hidden (l.base + l.a) (l.base + l.b) l.c l.k
