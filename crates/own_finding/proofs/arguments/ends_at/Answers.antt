-- `own_finding::arguments::ends_at` meets its contract.
-- Assumes nothing.
use Rattle.own_finding.proofs.Cases.{cases}
use Rattle.own_finding.proofs.arguments.ends_at.Goals as goal

pub returns-then-closers-eq0 : goal.returns-then-closers-eq0
returns-then-closers-eq0 c = search cases

pub returns : goal.returns
returns c = search cases
