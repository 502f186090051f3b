-- `list_pen::first_power` meets its contract.
-- Assumes nothing.
use Rattle.list_pen.proofs.Digits.{raise_again, raise_stop, raise_end}
use borrow.Author.Rules.{rules}
use Rattle.list_pen.proofs.first_power.Goals as goal

pub returns-then-n-power : goal.returns-then-n-power
returns-then-n-power c = search (raise_stop, rules)

pub loop-preserved : goal.loop-preserved
loop-preserved c = search (raise_again, rules)

pub returns : goal.returns
returns c = search (raise_end, rules)
