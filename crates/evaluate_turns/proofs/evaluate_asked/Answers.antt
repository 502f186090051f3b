-- `evaluate_turns::evaluate_asked` meets its contract. Assumes nothing.
use borrow.Author.Rules.{rules}
use Rattle.evaluate_module.specs.Next.{start_room, join_room, finish_room, keep_room, steps_refused, steps_kept}
use Rattle.evaluate_turns.specs.Turning.{asked_refused, asked_kept}
use Rattle.evaluate_turns.proofs.evaluate_asked.Goals as goal

pub started-so_far-requires : goal.started-so_far-requires
started-so_far-requires c = search (start_room, rules)

pub joined-rows-requires : goal.joined-rows-requires
joined-rows-requires c = search (join_room, rules)

pub finished-requires : goal.finished-requires
finished-requires c = finish_room _ _ _ _ _ _ c.requires.k_bound c.requires.resumed.prepared.ready _ _ c.started-so_far.ensures _ _ c.joined-rows.ensures

pub kept-requires : goal.kept-requires
kept-requires c = keep_room _ _ _ _ _ _ c.requires.k_bound c.requires.resumed.prepared.ready _ _ c.started-so_far.ensures _ _ c.joined-rows.ensures
    _ _ c.finished.ensures _ c.in-Ok.is _ (search rules)

pub returns-in-Err : goal.returns-in-Err
returns-in-Err c = asked_refused _ _ _ _ _ _ _ c.requires.k_bound _ _ _ c.name_of_module-name.ensures
    (steps_refused _ _ _ _ _ _ c.requires.k_bound c.requires.resumed.prepared.ready _ _ c.started-so_far.ensures _ _ c.joined-rows.ensures
    _ _ c.finished.ensures _ c.in-Err.is)

pub shape_of-work-in-Ok : goal.shape_of-work-in-Ok
shape_of-work-in-Ok c = search (c.started-so_far.auto, c.joined-rows.auto, c.finished.auto, c.kept.auto, rules)

pub returns-in-Ok : goal.returns-in-Ok
returns-in-Ok c = asked_kept _ _ _ _ _ _ _ c.requires.k_bound _ _
    (steps_kept _ _ _ _ _ _ c.requires.k_bound c.requires.resumed.prepared.ready _ _ c.started-so_far.ensures _ _ c.joined-rows.ensures
    _ _ c.finished.ensures _ c.in-Ok.is _ _ c.kept.ensures)
