-- `clause_fitting::items::find_misfit` meets its contract.
-- Assumes nothing.
use Rattle.clause_fitting.proofs.FormalCases.{finds}
use Rattle.clause_fitting.proofs.items.find_misfit.Goals as goal

pub loop-i-init : goal.loop-i-init
loop-i-init c = search finds

pub is_misfit-requires : goal.is_misfit-requires
is_misfit-requires c = search finds

pub returns-then-is_misfit : goal.returns-then-is_misfit
returns-then-is_misfit c = search finds

pub loop-i-preserved : goal.loop-i-preserved
loop-i-preserved c = search finds

pub returns : goal.returns
returns c = search finds
