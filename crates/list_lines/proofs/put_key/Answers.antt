-- `list_lines::put_key` meets its contract.
-- Assumes nothing.
use Rattle.list_lines.proofs.Cases.{cases}
use Rattle.list_lines.proofs.put_key.Goals as goal

pub returns-then-kind-eq-SORT : goal.returns-then-kind-eq-SORT
returns-then-kind-eq-SORT c = search cases

pub returns-then-kind-eq-VARIABLE : goal.returns-then-kind-eq-VARIABLE
returns-then-kind-eq-VARIABLE c = search cases

pub returns : goal.returns
returns c = search cases
