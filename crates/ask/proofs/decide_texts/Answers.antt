-- `ask::decide_texts` meets its contract. Assumes nothing.
use Rattle.ask.proofs.Cases.{reading_first}
use Rattle.ask.proofs.decide_texts.Goals as goal

pub slice_bounds-read_both-end : goal.slice_bounds-read_both-end
slice_bounds-read_both-end c = search reading_first

pub read_both-requires : goal.read_both-requires
read_both-requires c = search reading_first

pub decide_from-requires : goal.decide_from-requires
decide_from-requires c = search reading_first

pub returns-in-Err : goal.returns-in-Err
returns-in-Err c = search reading_first
