-- `unite_equations::absorb_first` meets its contract.
-- Assumes nothing.
use Rattle.unite_equations.proofs.Turns.{Joining}
use Rattle.text_names.specs.Joint.{joint}
use Rattle.unite_equations.proofs.absorb_first.Given as goal

abbrev pub invariant-loop-k : goal.invariant-loop-k
invariant-loop-k l = Joining (joint l.library l.text) l.t l.initial.work l.g l.n l.o l.initial.h l.work l.h l.k
