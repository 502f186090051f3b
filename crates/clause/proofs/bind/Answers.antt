-- `clause::bind` meets its contract.
-- Assumes nothing.
use Rattle.std.proofs.lemmas.Result.{err_from_is_err_and}
use Rattle.clause.proofs.Cases.{ends}
use Rattle.clause.proofs.bind.Goals as goal

pub clause_right-requires : goal.clause_right-requires
clause_right-requires c = search ends

pub returns-in_err-clause_right : goal.returns-in_err-clause_right
returns-in_err-clause_right c =
    let p = err_from_is_err_and c.from_residual.result c.from_residual.ensures.1 in
    rw (p.1, p.2) (search (ends, c.in_err-clause_right.was))

pub bound-requires : goal.bound-requires
bound-requires c = search ends

pub returns-then-has_parameter : goal.returns-then-has_parameter
returns-then-has_parameter c = search ends

pub returns : goal.returns
returns c = search ends
