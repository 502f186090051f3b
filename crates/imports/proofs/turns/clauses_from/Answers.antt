-- `imports::turns::clauses_from` meets its contract. Assumes nothing.
use mathlib.Core.Path.{refl}
use Rattle.std.proofs.lemmas.Result.{err_from_is_err_and}
use Rattle.imports.specs.Clausal.{clauses_again}
use Rattle.imports.proofs.Cases.{cases}
use Rattle.imports.proofs.turns.clauses_from.Goals as goal

pub loop-n-init : goal.loop-n-init
loop-n-init c = search cases

pub slice_bounds-starts_clause-count : goal.slice_bounds-starts_clause-count
slice_bounds-starts_clause-count c = search cases

pub slice_bounds-starts_clause-start : goal.slice_bounds-starts_clause-start
slice_bounds-starts_clause-start c = search cases

pub slice_bounds-starts_clause-end : goal.slice_bounds-starts_clause-end
slice_bounds-starts_clause-end c = search cases

pub slice_bounds-run_end-count : goal.slice_bounds-run_end-count
slice_bounds-run_end-count c = search cases

pub slice_bounds-run_end-start : goal.slice_bounds-run_end-start
slice_bounds-run_end-start c = search cases

pub slice_bounds-run_end-end : goal.slice_bounds-run_end-end
slice_bounds-run_end-end c = search cases

pub overflow_add-at : goal.overflow_add-at
overflow_add-at c = search cases

pub run_end-end-requires : goal.run_end-end-requires
run_end-end-requires c = search cases

pub clause_turn-requires : goal.clause_turn-requires
clause_turn-requires c = search cases

pub returns-in_err-f : goal.returns-in_err-f
returns-in_err-f c =
    let p = err_from_is_err_and c.from_residual.result c.from_residual.ensures.1 in
    rw (p.1, p.2) (search (cases, c.in_err-f.was))

pub loop-n-preserved : goal.loop-n-preserved
loop-n-preserved c = clauses_again _ _ _ _ _ _ _ _ _ _ _ _ c.loop-n.invariant _ _ _ _ c.starts_clause.ensures c.if-starts_clause.true
    c.run_end-end.ensures c.clause_turn.ensures _ _ c.in_ok-f.was refl

pub shape_of-work-else-starts_clause : goal.shape_of-work-else-starts_clause
shape_of-work-else-starts_clause c = search cases

pub returns-else-starts_clause : goal.returns-else-starts_clause
returns-else-starts_clause c = search cases

pub shape_of-work : goal.shape_of-work
shape_of-work c = search cases

pub returns : goal.returns
returns c = search cases
