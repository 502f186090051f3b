use Rattle.std.proofs.lemmas.Result.{err_from_is_err_and}
use Rattle.clause.proofs.renaming.Cases.{cases}
use Rattle.clause.proofs.renaming.rename.Goals as goal

pub renamed-requires : goal.renamed-requires
renamed-requires c = search cases

pub returns-in_err-clause_right : goal.returns-in_err-clause_right
returns-in_err-clause_right c =
    let p = err_from_is_err_and c.from_residual.result c.from_residual.ensures.1 in
    rw (p.1, p.2) (search (cases, c.in_err-clause_right.was))

pub returns : goal.returns
returns c = search cases
