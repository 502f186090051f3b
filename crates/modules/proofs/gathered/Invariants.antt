-- `modules::gathered` meets its contract.
-- Assumes nothing.
use Rattle.text_names.specs.Joint.{joint}
use Rattle.modules.specs.Modules.{named_set, heads_in}
use Rattle.modules.proofs.Cases.{Gathering}
use Rattle.modules.proofs.gathered.Given as goal

abbrev pub invariant-loop-k : goal.invariant-loop-k
invariant-loop-k l = Gathering (named_set (joint l.library l.text) l.tape (heads_in l.h)) l.n l.set l.all l.k
