-- `imports::imports::imports_from` meets its contract. Assumes nothing.
use Rattle.std.proofs.lemmas.Result.{err_from_is_err_and}
use borrow.Author.Rules.{rules}
use Rattle.imports.specs.Expressions.{imports_start, imports_ended, imports_none, imports_stop, imports_again}
use Rattle.imports.specs.Expressions.{imports_tape, import_room, union_room}
use Rattle.imports.proofs.imports.imports_from.Goals as goal

pub loop-n-init : goal.loop-n-init
loop-n-init c = search (imports_start, rules)

pub run_end-end-requires : goal.run_end-end-requires
run_end-end-requires c = search (imports_tape, rules)

pub expression-requires : goal.expression-requires
expression-requires c = import_room _ _ _ _ _ _ c.role_at.ensures c.if-role_at-eq-IMPORT.true c.loop-n.invariant.room

pub returns-in_err-g : goal.returns-in_err-g
returns-in_err-g c =
    let p = err_from_is_err_and c.from_residual.result c.from_residual.ensures.1 in
    rw (p.1, p.2) (search (imports_stop, rules, c.in_err-g.was))

pub united_with-made-requires : goal.united_with-made-requires
united_with-made-requires c = union_room _ _ _ _ _ _ _ c.role_at.ensures c.if-role_at-eq-IMPORT.true c.loop-n.invariant.room _ _ _ c.run_end-end.ensures
    c.expression.ensures _ c.in_ok-g.was

pub loop-n-preserved : goal.loop-n-preserved
loop-n-preserved c = imports_again _ _ _ _ _ _ _ _ _ _ _ c.loop-n.invariant _ c.role_at.ensures c.if-role_at-eq-IMPORT.true _ _ _
    c.run_end-end.ensures c.expression.ensures _ _ _ c.in_ok-g.was c.united_with-made.ensures

pub returns-else-role_at-eq-IMPORT : goal.returns-else-role_at-eq-IMPORT
returns-else-role_at-eq-IMPORT c = imports_none _ _ _ _ _ _ _ _ _ _ _ c.loop-n.invariant _ c.role_at.ensures c.if-role_at-eq-IMPORT.false

pub returns : goal.returns
returns c = search (imports_ended, rules)
