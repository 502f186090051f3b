-- `imports::imports::united_with` meets its contract. Assumes nothing.
use Rattle.std.proofs.lemmas.Result.{err_from_is_err_and}
use borrow.Author.Rules.{rules}
use Rattle.imports.specs.Expressions.{join_room, union_waits, union_joins}
use Rattle.imports.proofs.imports.united_with.Goals as goal

pub join-requires : goal.join-requires
join-requires c = search (join_room, c.in_ok-f.was, rules)

pub returns-in_err-f : goal.returns-in_err-f
returns-in_err-f c =
    let p = err_from_is_err_and c.from_residual.result c.from_residual.ensures.1 in
    rw (p.1, p.2) (search (union_waits, rules, c.in_err-f.was))

pub returns : goal.returns
returns c = search (union_joins, c.in_ok-f.was, rules)
