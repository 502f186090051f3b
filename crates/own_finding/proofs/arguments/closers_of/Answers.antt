-- `own_finding::arguments::closers_of` meets its contract.
-- Assumes nothing.
use Rattle.own_finding.proofs.Cases.{cases}
use Rattle.own_finding.proofs.arguments.closers_of.Goals as goal

pub returns-then-role-eq-HEAD : goal.returns-then-role-eq-HEAD
returns-then-role-eq-HEAD c = search cases

pub returns : goal.returns
returns c = search cases
