-- `text_names::joint::compare` meets its contract.
-- Assumes nothing.
use Rattle.text_names.proofs.Joined.{cases, here_seen}
use borrow.Author.Rules.{rules}
use Rattle.text_names.proofs.joint.compare.Goals as goal

pub slice_bounds-compare_names-end : goal.slice_bounds-compare_names-end
slice_bounds-compare_names-end c = search cases

pub slice_bounds-compare_names-end-then-have_room : goal.slice_bounds-compare_names-end-then-have_room
slice_bounds-compare_names-end-then-have_room c = search cases

pub returns-in-Some : goal.returns-in-Some
returns-in-Some c = search (here_seen, rules)

pub returns : goal.returns
returns c = search cases
