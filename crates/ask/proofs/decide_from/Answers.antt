-- `ask::decide_from` meets its contract. Assumes nothing.
use Rattle.ask.proofs.Cases.{comparing_texts}
use Rattle.ask.proofs.decide_from.Goals as goal

pub slice_bounds-decide_read-end : goal.slice_bounds-decide_read-end
slice_bounds-decide_read-end c = search comparing_texts

pub slice_bounds-decide_read-end-then-same_texts : goal.slice_bounds-decide_read-end-then-same_texts
slice_bounds-decide_read-end-then-same_texts c = search comparing_texts

pub decide_read-requires : goal.decide_read-requires
decide_read-requires c = search comparing_texts
