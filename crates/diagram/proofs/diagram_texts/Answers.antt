-- `diagram::diagram_texts` meets its contract. Assumes nothing.
use Rattle.diagram.proofs.Cases.{reading}
use Rattle.diagram.proofs.diagram_texts.Goals as goal

pub slice_bounds-read_both-end : goal.slice_bounds-read_both-end
slice_bounds-read_both-end c = search reading

pub read_both-requires : goal.read_both-requires
read_both-requires c = search reading

pub diagram_read-requires : goal.diagram_read-requires
diagram_read-requires c = search reading

pub returns-in-Err : goal.returns-in-Err
returns-in-Err c = search reading
