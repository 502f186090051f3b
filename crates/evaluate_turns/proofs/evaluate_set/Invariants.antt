-- `evaluate_turns::evaluate_set` meets its contract. Assumes nothing.
use Rattle.text_names.specs.Joint.{joint}
use Rattle.evaluate_turns.specs.Turning.{Going}
use Rattle.modules.specs.Modules.{heads_in}
use Rattle.evaluate_turns.proofs.evaluate_set.Given as goal

abbrev pub invariant-loop-i : goal.invariant-loop-i
invariant-loop-i l = Going (joint l.library l.text) l.t l.initial.work (heads_in l.h) l.set l.k l.initial.s l.i l.count l.s l.work
