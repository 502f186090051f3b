-- `ask_walk::changed_set` meets its contract. Assumes nothing.
use Prim.Native.Nat.{◌-◌}
use Rattle.text_names.specs.Joint.{joint}
use Rattle.module_set.specs.ModuleSet.{holds}
use Rattle.ask_walk.proofs.Walking.{Changing}
use Rattle.modules.specs.Modules.{heads_in}
use Rattle.ask_walk.proofs.changed_set.Given as goal

abbrev pub invariant-loop-i : goal.invariant-loop-i
invariant-loop-i l =
    Changing (joint l.library l.text) l.tape (heads_in l.h) (joint l.behind l.other) l.more (heads_in l.g) (holds l.set) (holds l.new_set) l.count l.new_count l.all l.i l.j

abbrev pub decreases-loop-i : goal.decreases-loop-i
decreases-loop-i l =
    l.count - l.i
