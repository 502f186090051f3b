-- `ask_walk::next_member` meets its contract. Assumes nothing.
use Rattle.module_set.specs.ModuleSet.{holds}
use Rattle.ask_walk.proofs.Walking.{Seeking}
use Rattle.ask_walk.proofs.next_member.Given as goal

abbrev pub invariant-loop-k : goal.invariant-loop-k
invariant-loop-k l = Seeking (holds l.set) l.i l.end l.k
