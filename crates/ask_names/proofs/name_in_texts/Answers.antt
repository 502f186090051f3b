-- `ask_names::name_in_texts` meets its contract. Assumes nothing.
use Rattle.ask_names.proofs.Cases.{reading}
use Rattle.ask_names.proofs.name_in_texts.Goals as goal

pub slice_bounds-read_both-end : goal.slice_bounds-read_both-end
slice_bounds-read_both-end c = search reading

pub read_both-requires : goal.read_both-requires
read_both-requires c = search reading

pub slice_bounds-name_read-end : goal.slice_bounds-name_read-end
slice_bounds-name_read-end c = search reading

pub name_read-requires : goal.name_read-requires
name_read-requires c = search reading

pub returns-in-Err : goal.returns-in-Err
returns-in-Err c = search reading
