-- `list_pen::put_numbered` meets its contract.
-- Assumes nothing.
use Rattle.meaning.specs.Written.{numbered}
use Rattle.list_pen.proofs.Laws.{then}
use borrow.Author.Rules.{rules}
use Rattle.list_pen.proofs.put_numbered.Goals as goal

pub returns : goal.returns
unfolding numbered
returns c = search (then, rules)
