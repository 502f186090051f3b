-- `asf::text_sought` meets its contract. Assumes nothing.
use Rattle.asf.specs.Meant.{end_within, tape_room, read_spoken, unread_sought}
use borrow.Author.Rules.{rules}
use Rattle.asf.proofs.text_sought.Goals as goal

pub slice_bounds-read_both-end : goal.slice_bounds-read_both-end
slice_bounds-read_both-end c = search (end_within, rules)

pub read_both-requires : goal.read_both-requires
read_both-requires c = search (tape_room, rules)

pub asked_sought-requires : goal.asked_sought-requires
asked_sought-requires c = search (read_spoken, rules)

pub returns-in-Err : goal.returns-in-Err
returns-in-Err c = search (unread_sought, rules)
