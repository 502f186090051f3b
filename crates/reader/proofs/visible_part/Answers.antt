-- `reader::visible_part` meets its contract.
-- Assumes nothing.
use Rattle.reader.proofs.Front.{visible_within, part_front}
use borrow.Author.Rules.{rules}
use Rattle.reader.proofs.visible_part.Goals as goal

pub returns : goal.returns
returns c = search (part_front, rules)

pub slice_bounds-result-end : goal.slice_bounds-result-end
slice_bounds-result-end c = search (visible_within, rules)
