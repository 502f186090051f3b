-- `clause_checks::renamings::is_unfit` meets its contract.
-- Assumes nothing.
use Rattle.clause_checks.proofs.RenamingCases.{unfits}
use Rattle.clause_checks.proofs.renamings.is_unfit.Goals as goal

pub returns-then-may_name : goal.returns-then-may_name
returns-then-may_name c = search unfits

pub returns-then-same_word : goal.returns-then-same_word
returns-then-same_word c = search unfits

pub returns : goal.returns
returns c = search unfits
