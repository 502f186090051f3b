-- `list_pen::put_digits` meets its contract.
-- Assumes nothing.
use Rattle.list_pen.proofs.Digits.{place_none, place_start, place_again, place_end}
use borrow.Author.Rules.{rules}
use Rattle.list_pen.proofs.put_digits.Goals as goal

pub returns-then-size-eq0 : goal.returns-then-size-eq0
returns-then-size-eq0 c = search (place_none, rules)

pub loop-power-init : goal.loop-power-init
loop-power-init c = search (place_start, rules)

pub loop-power-preserved : goal.loop-power-preserved
loop-power-preserved c = search (place_again, rules)

pub returns : goal.returns
returns c = search (place_end, rules)
