-- `list_pen::first_power` meets its contract.
-- Assumes nothing.
use Rattle.list_pen.proofs.Digits.{Raising}
use Rattle.list_pen.proofs.first_power.Given as goal

abbrev pub invariant-loop : goal.invariant-loop
invariant-loop l = Raising l.n l.behind l.power l.counter
