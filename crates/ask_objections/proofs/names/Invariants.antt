-- `ask_objections::names` meets its contract.
-- Assumes nothing.
use Rattle.text_names.specs.Joint.{joint}
use Rattle.ask_objections.proofs.Cases.{Rest}
use Rattle.modules.specs.Modules.{heads_in}
use Rattle.ask_objections.proofs.names.Given as goal

abbrev pub invariant-loop-j : goal.invariant-loop-j
invariant-loop-j l = Rest (joint l.library l.text) l.tape (heads_in l.h) (joint l.behind l.other) l.more (heads_in l.g) l.k l.n l.j l.end
