-- `reader::next_line` meets its contract.
-- Assumes nothing.
use Rattle.reader.proofs.Cases.{stepped}
use borrow.Author.Rules.{rules}
use Rattle.reader.proofs.next_line.Goals as goal

pub returns : goal.returns
returns c = search (stepped, rules)
