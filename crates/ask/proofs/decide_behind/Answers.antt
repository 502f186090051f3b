-- `ask::decide_behind` meets its contract. Assumes nothing.
use Rattle.ask.specs.Lying.{second_refused}
use Rattle.ask.proofs.Cases.{reading_second}
use borrow.Author.Rules.{rules}
use Rattle.ask.proofs.decide_behind.Goals as goal

pub slice_bounds-read_both-end : goal.slice_bounds-read_both-end
slice_bounds-read_both-end c = search reading_second

pub read_both-requires : goal.read_both-requires
read_both-requires c = search reading_second

pub slice_bounds-decide_read-end : goal.slice_bounds-decide_read-end
slice_bounds-decide_read-end c = search reading_second

pub overflow_add-end-in-Ok : goal.overflow_add-end-in-Ok
overflow_add-end-in-Ok c = search reading_second

pub slice_bounds-decide_read-end-in-Ok : goal.slice_bounds-decide_read-end-in-Ok
slice_bounds-decide_read-end-in-Ok c = search reading_second

pub decide_read-requires : goal.decide_read-requires
decide_read-requires c = search reading_second

pub returns-in-Err : goal.returns-in-Err
returns-in-Err c = search (second_refused, c.nameless.ensures, c.in-Err.is, c.read_both.ensures, c.requires, rules)
