use Rattle.std.proofs.lemmas.Result.{err_from_is_err_and}
use Rattle.evaluate_module.proofs.Cases.{cases}
use Rattle.evaluate_module.proofs.steps.started.Goals as goal

pub imported-requires : goal.imported-requires
imported-requires c = search cases

pub returns-in_err-first_checks : goal.returns-in_err-first_checks
returns-in_err-first_checks c =
    let p = err_from_is_err_and c.from_residual.result c.from_residual.ensures.1 in
    rw (p.1, p.2) (search (cases, c.in_err-first_checks.was))

pub returns : goal.returns
returns c = search (cases, c.in_ok-first_checks.was)
