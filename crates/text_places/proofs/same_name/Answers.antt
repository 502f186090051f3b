-- `text_places::same_name` meets its contract.
-- Assumes nothing.
use Rattle.text_places.proofs.Places.{cases, alone_same}
use borrow.Author.Rules.{rules}
use Rattle.text_places.proofs.same_name.Goals as goal

pub returns-then-a-b : goal.returns-then-a-b
returns-then-a-b c = search cases

pub slice_bounds-same_bytes-end : goal.slice_bounds-same_bytes-end
slice_bounds-same_bytes-end c = search cases

pub slice_bounds-same_bytes-end-then-are_plain : goal.slice_bounds-same_bytes-end-then-are_plain
slice_bounds-same_bytes-end-then-are_plain c = search cases

pub returns-then-are_plain : goal.returns-then-are_plain
returns-then-are_plain c = search cases

pub returns : goal.returns
returns c = search (alone_same, rules)
