-- `own_items::parameters::own_parameters` meets its contract.
-- Assumes nothing.
use Rattle.own_items.proofs.Named.{naming, naming_put, naming_skip}
use Rattle.own_items.proofs.parameters.own_parameters.Goals as goal

pub loop-i-preserved-then-role_at-ne-PARAMETER : goal.loop-i-preserved-then-role_at-ne-PARAMETER
loop-i-preserved-then-role_at-ne-PARAMETER c = naming_skip _ _ _ _ _ _ _ _ _ c.loop-i.invariant _ c.role_at.ensures c.loop-i-test.true
    c.if-role_at-ne-PARAMETER.true

pub loop-i-preserved : goal.loop-i-preserved
loop-i-preserved c = naming_put _ _ _ _ _ _ _ _ _ c.loop-i.invariant _ c.role_at.ensures c.loop-i-test.true c.if-role_at-ne-PARAMETER.false _
    c.put_parameter.ensures

pub returns : goal.returns
returns c = search naming
