-- `unite_nodes::copy_nodes` meets its contract.
-- Assumes nothing.
use Rattle.unite_nodes.proofs.Runs.{Copying}
use Prim.Native.Nat.{◌+◌}
use Rattle.unite_nodes.proofs.copy_nodes.Given as goal

abbrev pub invariant-loop-k : goal.invariant-loop-k
invariant-loop-k l = Copying l.initial.work l.visible l.hidden (l.source + l.a) (l.base + l.b) l.c l.work l.k
