-- `module_names::names_right` meets its contract.
-- Assumes nothing.
use mathlib.Core.Path.{◌≡◌}
use Prim.Native.Nat.{◌-◌}
use lib.ListN.{take}
use Rattle.meaning.specs.Evaluate.{names_right}
use Rattle.text_names.specs.Joint.{joint}
use Rattle.modules.specs.Modules.{names_module, declared, named_in, picked, heads_in}
use Rattle.module_names.proofs.names_right.Given as goal

abbrev pub invariant-loop-j : goal.invariant-loop-j
invariant-loop-j l =
    names_right (declared (joint l.library l.text) l.tape (heads_in l.h)) (take l.k (declared (joint l.library l.text) l.tape (heads_in l.h))) (named_in (joint l.library l.text) l.tape (heads_in l.h) l.k)
    ≡ names_right (declared (joint l.library l.text) l.tape (heads_in l.h)) (take l.k (declared (joint l.library l.text) l.tape (heads_in l.h))) (picked names_module (joint l.library l.text) l.tape l.j (l.end - l.j))
