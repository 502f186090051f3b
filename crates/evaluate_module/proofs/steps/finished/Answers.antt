use Rattle.std.proofs.lemmas.Result.{err_from_is_err_and}
use Rattle.evaluate_module.proofs.Cases.{last_cases}
use Rattle.evaluate_module.proofs.steps.finished.Goals as goal

pub join_equations-requires : goal.join_equations-requires
join_equations-requires c = search (last_cases, c.in_ok-counts.was, c.in_ok-f.was)

pub returns-in_err-counts : goal.returns-in_err-counts
returns-in_err-counts c =
    let p = err_from_is_err_and c.from_residual.result c.from_residual.ensures.1 in
    rw (p.1, p.2) (search (last_cases, c.in_err-counts.was))

pub returns-in_err-f : goal.returns-in_err-f
returns-in_err-f c = search (last_cases, c.in_ok-counts.was, c.in_err-f.was)

pub returns : goal.returns
returns c = search (last_cases, c.in_ok-counts.was, c.in_ok-f.was)
