-- `ask_walk::against` meets its contract. Assumes nothing.
use Rattle.text_names.specs.Joint.{joint}
use Rattle.module_set.specs.ModuleSet.{holds}
use Rattle.ask_walk.proofs.Walking.{Passing}
use Rattle.modules.specs.Modules.{heads_in}
use Rattle.ask_walk.proofs.against.Given as goal

abbrev pub invariant-loop-pass : goal.invariant-loop-pass
invariant-loop-pass l =
    Passing (joint l.library l.text) l.tape (heads_in l.h) (joint l.behind l.other) l.more (heads_in l.g) l.asked (holds l.set) (holds l.new_set) l.pass
