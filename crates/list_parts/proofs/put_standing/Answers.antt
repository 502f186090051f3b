-- `list_parts::put_standing` meets its contract.
-- Assumes nothing.
use Rattle.list_parts.specs.Lines.{standing_text}
use Rattle.list_parts.proofs.Cases.{cases}
use Rattle.list_parts.proofs.put_standing.Goals as goal

pub loop-i-preserved : goal.loop-i-preserved
unfolding standing_text
loop-i-preserved c = search cases

pub returns : goal.returns
unfolding standing_text
returns c = search cases
