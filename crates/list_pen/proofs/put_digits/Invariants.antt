-- `list_pen::put_digits` meets its contract.
-- Assumes nothing.
use Rattle.list_pen.proofs.Digits.{Placing}
use Rattle.list_pen.proofs.put_digits.Given as goal

abbrev pub invariant-loop-power : goal.invariant-loop-power
invariant-loop-power l = Placing l.limit l.n l.size l.at l.initial.out l.power l.to l.out

abbrev pub decreases-loop-power : goal.decreases-loop-power
decreases-loop-power l = l.power
