-- `unite_parameters::sorts_agree` meets its contract.
-- Assumes nothing.
use Rattle.unite_parameters.proofs.Cases.{turns}
use Rattle.unite_parameters.proofs.sorts_agree.Goals as goal

pub returns-then-next-eq9 : goal.returns-then-next-eq9
returns-then-next-eq9 c = search turns

pub returns-then-end-next : goal.returns-then-end-next
returns-then-end-next c = search turns

pub loop-f-preserved : goal.loop-f-preserved
loop-f-preserved c = search turns

pub returns : goal.returns
returns c = search turns
