-- `module_names::name_right` meets its contract.
-- Assumes nothing.
use Rattle.module_names.proofs.Cases.{numbers}
use Rattle.module_names.proofs.name_right.Goals as goal

pub returns-then-count-p : goal.returns-then-count-p
returns-then-count-p c = search numbers

pub returns-then-k-p : goal.returns-then-k-p
returns-then-k-p c = search numbers

pub returns : goal.returns
returns c = search numbers
