-- `own_declarations::sorts::sort_word` meets its contract.
-- Assumes nothing.
use Rattle.own_declarations.proofs.Cases.{cases}
use Rattle.own_declarations.proofs.sorts.sort_word.Goals as goal

pub returns-then-is_seen : goal.returns-then-is_seen
returns-then-is_seen c = search cases

pub returns-then-d-end : goal.returns-then-d-end
returns-then-d-end c = search cases

pub returns : goal.returns
returns c = search cases
