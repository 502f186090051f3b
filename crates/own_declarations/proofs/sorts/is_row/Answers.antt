-- `own_declarations::sorts::is_row` meets its contract.
-- Assumes nothing.
use Rattle.own_declarations.proofs.Cases.{cases}
use Rattle.own_declarations.proofs.sorts.is_row.Goals as goal

pub returns-then-row_word-kind : goal.returns-then-row_word-kind
returns-then-row_word-kind c = search cases

pub returns : goal.returns
returns c = search cases
