-- `own_items::checking::own_checks` meets its contract.
-- Assumes nothing.
use Rattle.std.proofs.lemmas.Result.{err_from_is_err_and}
use Rattle.own_items.proofs.Told.{telling}
use Rattle.own_items.proofs.checking.own_checks.Goals as goal

pub returns-in_err-consistent : goal.returns-in_err-consistent
returns-in_err-consistent c =
    let p = err_from_is_err_and c.from_residual.result c.from_residual.ensures.1 in
    rw (p.1, p.2) (search (telling, c.in_err-consistent.was))

pub returns : goal.returns
returns c = search (telling, c.in_ok-consistent.was)
