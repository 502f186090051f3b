-- `diagram::diagram_read` meets its contract. Assumes nothing.
use Rattle.diagram.proofs.Cases.{seeking, end_small}
use Rattle.diagram_lent.specs.Lent.{asked_there}
use Rattle.diagram.proofs.diagram_read.Goals as goal

pub slice_bounds-find_heads-end : goal.slice_bounds-find_heads-end
slice_bounds-find_heads-end c = search seeking

pub slice_bounds-find_asked-end : goal.slice_bounds-find_asked-end
slice_bounds-find_asked-end c = search seeking

pub returns-then-count-k : goal.returns-then-count-k
returns-then-count-k c = search seeking

pub diagram_of-requires : goal.diagram_of-requires
diagram_of-requires c = record {
  base_bound = end_small _ c.tape_end-base.ensures;
  asked = asked_there _ _ _ _ c.requires _ c.find_heads.ensures _ _ _ c.find_asked-k.ensures c.module_count-count.ensures _ c.tape_end-base.ensures c.if-count-k.false;
}
