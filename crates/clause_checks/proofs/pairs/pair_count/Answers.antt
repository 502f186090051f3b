-- `clause_checks::pairs::pair_count` meets its contract.
-- Assumes nothing.
use Rattle.clause_checks.proofs.PairCases.{counts}
use Rattle.clause_checks.proofs.pairs.pair_count.Goals as goal

pub loop-k-init : goal.loop-k-init
loop-k-init c = search counts

pub loop-k-preserved : goal.loop-k-preserved
loop-k-preserved c = search counts

pub returns-then-role_at-ne-OLD : goal.returns-then-role_at-ne-OLD
returns-then-role_at-ne-OLD c = search counts

pub returns : goal.returns
returns c = search counts
