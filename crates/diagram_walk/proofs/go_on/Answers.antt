-- `diagram_walk::go_on` meets its contract. Assumes nothing.
use Rattle.diagram_open.specs.Turns.{underway_within, underway_few, underway_walking}
use borrow.Author.Rules.{rules}
use Rattle.diagram_walk.proofs.Cases.{walks}
use Rattle.diagram_walk.proofs.go_on.Goals as goal

pub loop-boxes-init : goal.loop-boxes-init
loop-boxes-init c = search walks

pub shape_of-out-then-n-ge-LINES : goal.shape_of-out-then-n-ge-LINES
shape_of-out-then-n-ge-LINES c = search walks

pub shape_of-work-then-n-ge-LINES : goal.shape_of-work-then-n-ge-LINES
shape_of-work-then-n-ge-LINES c = search walks

pub returns-then-n-ge-LINES : goal.returns-then-n-ge-LINES
returns-then-n-ge-LINES c = search walks

pub turn-s-requires : goal.turn-s-requires
turn-s-requires c = record {
  t_in_bounds = underway_within _ _ _ _ _ _ _ _ _ _ _ _ _ _ _ c.loop-boxes.invariant;
  base_bound = search rules;
  boxes_nonzero = c.loop-boxes-test.true;
  boxes_bound = underway_few _ _ _ _ _ _ _ _ _ _ _ _ _ _ _ c.loop-boxes.invariant;
  walking = underway_walking _ _ _ _ _ _ _ _ _ _ _ _ _ _ _ c.loop-boxes.invariant;
}

pub loop-boxes-smaller : goal.loop-boxes-smaller
loop-boxes-smaller c = search walks

pub loop-boxes-preserved : goal.loop-boxes-preserved
loop-boxes-preserved c = search walks

pub shape_of-out : goal.shape_of-out
shape_of-out c = search walks

pub shape_of-work : goal.shape_of-work
shape_of-work c = search walks

pub returns : goal.returns
returns c = search walks
