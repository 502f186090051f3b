-- `text_names::joint::same_name` meets its contract.
-- Assumes nothing.
use Rattle.text_names.proofs.Joined.{cases, here_same}
use borrow.Author.Rules.{rules}
use Rattle.text_names.proofs.joint.same_name.Goals as goal

pub returns-then-a-b : goal.returns-then-a-b
returns-then-a-b c = search cases

pub slice_bounds-same_bytes-end : goal.slice_bounds-same_bytes-end
slice_bounds-same_bytes-end c = search cases

pub slice_bounds-same_bytes-end-then-have_room : goal.slice_bounds-same_bytes-end-then-have_room
slice_bounds-same_bytes-end-then-have_room c = search cases

pub returns-then-have_room : goal.returns-then-have_room
returns-then-have_room c = search (here_same, rules)

pub returns : goal.returns
returns c = search cases
