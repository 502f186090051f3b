-- `own_typing::equations::type_equations` meets its contract.
-- Assumes nothing.
use borrow.Author.Rules.{rules}
use native.Mathlib.Omega.{arith}
use Rattle.std.proofs.lemmas.Result.{err_from_is_err_and}
use Rattle.own_typing.proofs.Passes.{onward_stop, onward_again, onward}
use Rattle.own_typing.proofs.equations.type_equations.Goals as goal

pub returns-then-end-at : goal.returns-then-end-at
returns-then-end-at c = search onward

pub returns-in_err-sides : goal.returns-in_err-sides
returns-in_err-sides c =
    let p = err_from_is_err_and c.from_residual.result c.from_residual.ensures.1 in
    let none = c.in_err-sides.ensures.ok_part in
    let tag = rw none at c.in_err-sides.ensures.value in
    rw (p.1) (onward_stop _ _ _ _ _ _ _ _ _ _ _ c.loop-position.invariant (omega arith) c.if-end-at.false _ _ c.type_next.ensures _ none
    (cc (p.2, tag, c.name_at-tag.ensures)))

pub loop-position-preserved : goal.loop-position-preserved
loop-position-preserved c = onward_again _ _ _ _ _ _ _ _ _ _ _ c.loop-position.invariant (omega arith) c.if-end-at.false _ _ c.type_next.ensures _ _ (omega arith)
    (search rules) c.in_ok-sides.ensures.ok_part

pub returns : goal.returns
returns c = search onward
