-- `own_typing::equations::type_marked` meets its contract.
-- Assumes nothing.
use borrow.Author.Rules.{rules}
use native.Mathlib.Omega.{arith}
use Rattle.own_typing.proofs.Passes.{pass_ill, pass_past, pass_kept, pass_dropped, passing}
use Rattle.own_typing.proofs.equations.type_marked.Goals.{then-role_at-role, else-role_at-role}
use Rattle.own_typing.proofs.equations.type_marked.Goals as goal

pub returns-then-not-begins_at : goal.returns-then-not-begins_at
returns-then-not-begins_at c = search passing

pub returns-in_err-sides : goal.returns-in_err-sides
returns-in_err-sides c = rw c.from_residual.ensures
    (pass_ill _ _ _ _ _ _ _ _ _ _ _ _ _ _ c.loop.invariant (search rules) _ c.begins_at.ensures c.if-not-begins_at.false _ _ c.type_sides.ensures c.in_err-sides.was)

pub returns-then-t-sides : goal.returns-then-t-sides
returns-then-t-sides c = pass_past _ _ _ _ _ _ _ _ _ _ _ _ _ _ c.loop.invariant (search rules) _ c.begins_at.ensures c.if-not-begins_at.false _ _ c.type_sides.ensures _ c.in_ok-sides.was c.if-t-sides.true

pub loop-preserved : goal.loop-preserved
loop-preserved c =
    elim c.if-role_at-role.branch [
      | then-role_at-role w ↦ rw (w.free-is, w.count-is) (pass_kept _ _ _ _ _ _ _ _ _ _ _ _ _ _ c.loop.invariant (search rules) _ c.begins_at.ensures c.if-not-begins_at.false _ _ c.type_sides.ensures _ c.in_ok-sides.was c.if-t-sides.false _ c.role_at.ensures (search rules) _ (omega arith) w.if-role_at-role.true)
      | else-role_at-role w ↦ rw (w.free-is, w.count-is) (pass_dropped _ _ _ _ _ _ _ _ _ _ _ _ _ _ c.loop.invariant (search rules) _ c.begins_at.ensures c.if-not-begins_at.false _ _ c.type_sides.ensures _ c.in_ok-sides.was c.if-t-sides.false _ c.role_at.ensures (search rules) _ (omega arith) w.if-role_at-role.false)
    ]

pub returns : goal.returns
returns c = search passing
