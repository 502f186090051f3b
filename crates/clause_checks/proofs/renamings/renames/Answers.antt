-- `clause_checks::renamings::renames` meets its contract.
-- Assumes nothing.
use Rattle.clause_checks.proofs.PairCases.{singles}
use Rattle.clause_checks.proofs.renamings.renames.Goals as goal

pub returns-then-is_given : goal.returns-then-is_given
returns-then-is_given c = search singles

pub returns-then-pair_renames : goal.returns-then-pair_renames
returns-then-pair_renames c = search singles

pub returns : goal.returns
returns c = search singles
