-- `diagram_walk::turn` meets its contract. Assumes nothing.
use Rattle.diagram_walk.proofs.Cases.{turns}
use borrow.Author.Rules.{rules}
use mathlib.Core.List.{[]}
use Rattle.diagram_open.specs.Turns.{turn_next}
use Rattle.diagram_walk.proofs.turn.Goals as goal

pub returns-then-end-e : goal.returns-then-end-e
returns-then-end-e c = search turns

pub draw_expression-requires : goal.draw_expression-requires
draw_expression-requires c = record {
  t_in_bounds = search rules;
  base_bound = search rules;
  boxes_nonzero = search rules;
  boxes_bound = search rules;
  e_lt_end = search rules;
  turning = turn_next _ _ _ _ _ _ _ c.requires.walking 0 0 0 [] _ _ _ _ c.requires.boxes_nonzero c.word_at-k.ensures c.word_at-j.ensures c.place_at-end.ensures c.next_with-e.ensures c.if-end-e.false;
}
