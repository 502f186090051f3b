-- `own_items::parameters::own_parameters` meets its contract.
-- Assumes nothing.
use Rattle.own_items.proofs.Named.{Naming}
use Rattle.own_items.proofs.parameters.own_parameters.Given as goal

abbrev pub invariant-loop-i : goal.invariant-loop-i
invariant-loop-i l = Naming l.t l.fn.own.from l.end l.base l.n l.initial.work l.work l.k l.i
