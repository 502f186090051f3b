use Rattle.std.proofs.lemmas.Result.{err_from_is_err_and}
use Rattle.evaluate_module.proofs.Cases.{cases}
use Rattle.evaluate_module.proofs.steps.joined.Goals as goal

pub join_items-requires : goal.join_items-requires
join_items-requires c = search (cases, c.in_ok-f.was)

pub returns-in_err-f : goal.returns-in_err-f
returns-in_err-f c =
    let p = err_from_is_err_and c.from_residual.result c.from_residual.ensures.1 in
    rw (p.1, p.2) (search (cases, c.in_err-f.was))

pub returns : goal.returns
returns c = search (cases, c.in_ok-f.was)
