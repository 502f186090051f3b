-- `unite::unite_parameters` meets its contract.
-- Assumes nothing.
use Rattle.unite.proofs.Slots.{Uniting}
use Rattle.text_names.specs.Joint.{joint}
use Rattle.unite.proofs.unite_parameters.Given as goal

abbrev pub invariant-loop-k : goal.invariant-loop-k
invariant-loop-k l = Uniting (joint l.library l.text) l.t l.initial.work l.g l.f l.work l.n l.k
