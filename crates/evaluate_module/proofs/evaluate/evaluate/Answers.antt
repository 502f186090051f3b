use Rattle.std.proofs.lemmas.Result.{err_from_is_err_and}
use borrow.Author.Rules.{rules}
use Rattle.evaluate_module.specs.Next.{start_room, join_room, finish_room, keep_room, steps_refused, steps_kept}
use Rattle.evaluate_module.proofs.evaluate.evaluate.Goals as goal

pub started-so_far-requires : goal.started-so_far-requires
started-so_far-requires c = search (start_room, rules)

pub joined-rows-requires : goal.joined-rows-requires
joined-rows-requires c = search (join_room, rules)

pub finished-requires : goal.finished-requires
finished-requires c = search (finish_room, rules)

pub kept-requires : goal.kept-requires
kept-requires c = keep_room _ _ _ _ _ _ c.requires.k_bound c.requires.ready _ _ c.started-so_far.ensures _ _ c.joined-rows.ensures _ _ c.finished.ensures
    _ c.in_ok-f.was _ (search rules)

pub returns-in_err-f : goal.returns-in_err-f
returns-in_err-f c =
    let p = err_from_is_err_and c.from_residual.result c.from_residual.ensures.1 in
    rw (p.1, p.2) (search (steps_refused, rules, c.in_err-f.was))

pub shape_of-work : goal.shape_of-work
shape_of-work c = search (c.started-so_far.auto, c.joined-rows.auto, c.finished.auto, c.kept.auto, rules)

pub returns : goal.returns
returns c = steps_kept _ _ _ _ _ _ c.requires.k_bound c.requires.ready _ _ c.started-so_far.ensures _ _ c.joined-rows.ensures _ _ c.finished.ensures
    _ c.in_ok-f.was _ _ c.kept.ensures
