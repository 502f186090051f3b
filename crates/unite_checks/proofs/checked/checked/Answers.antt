use Rattle.std.proofs.lemmas.Result.{err_from_is_err_and}
use Rattle.unite_checks.proofs.Checks.{checks}
use Rattle.unite_checks.proofs.checked.checked.Goals as goal

pub consistent-requires : goal.consistent-requires
consistent-requires c = search checks

pub returns-in_err-consistent : goal.returns-in_err-consistent
returns-in_err-consistent c = let p = err_from_is_err_and c.from_residual.result c.from_residual.ensures.1 in rw (p.1, p.2) (search (checks, c.in_err-consistent.was))

pub returns : goal.returns
returns c = search (checks, c.in_ok-consistent.was)
