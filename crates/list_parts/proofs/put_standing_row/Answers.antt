-- `list_parts::put_standing_row` meets its contract.
-- Assumes nothing.
use Rattle.list_parts.proofs.Cases.{cases}
use Rattle.list_parts.proofs.put_standing_row.Goals as goal

pub returns-then-same_section : goal.returns-then-same_section
returns-then-same_section c = search cases

pub returns : goal.returns
returns c = search cases
