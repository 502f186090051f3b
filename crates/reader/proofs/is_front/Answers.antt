-- `reader::is_front` meets its contract.
-- Assumes nothing.
use Rattle.reader.proofs.Front.{front_early, front_late, front_none, front_bad}
use borrow.Author.Rules.{rules}
use Rattle.reader.proofs.is_front.Goals as goal

pub returns-then-n-lt7 : goal.returns-then-n-lt7
returns-then-n-lt7 c = search (front_early, rules)

pub returns-else-n-lt7 : goal.returns-else-n-lt7
returns-else-n-lt7 c = search (front_late, rules)

pub returns-in-End : goal.returns-in-End
returns-in-End c = search (front_none, rules)

pub returns-in-Bad : goal.returns-in-Bad
returns-in-Bad c = search (front_bad, rules)
