-- `clause_checks::renamings::pair_renames` meets its contract.
-- Assumes nothing.
use Rattle.clause_checks.proofs.RenamingCases.{known}
use Rattle.clause_checks.proofs.renamings.pair_renames.Goals as goal

pub returns-then-is_operator : goal.returns-then-is_operator
returns-then-is_operator c = search known

pub returns-then-is_visible : goal.returns-then-is_visible
returns-then-is_visible c = search known

pub returns : goal.returns
returns c = search known
