-- `modules::named_set` meets its contract.
-- Assumes nothing.
use mathlib.Core.Path.{◌≡◌}
use Prim.Native.Nat.{◌-◌}
use Rattle.text_names.specs.Joint.{joint}
use Rattle.module_set.specs.ModuleSet.{holds}
use Rattle.modules.specs.Modules.{names_module, declared, picked, with_named, named_set, heads_in}
use Rattle.modules.proofs.named_set.Given as goal

abbrev pub invariant-loop-j : goal.invariant-loop-j
invariant-loop-j l =
    named_set (joint l.library l.text) l.tape (heads_in l.h) l.k ≡ with_named (declared (joint l.library l.text) l.tape (heads_in l.h)) l.k (holds l.set) (picked names_module (joint l.library l.text) l.tape l.j (l.end - l.j))
