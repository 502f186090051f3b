-- `list_parts::put_hidden` meets its contract.
-- Assumes nothing.
use Rattle.list_parts.specs.Lines.{hidden_text}
use Rattle.list_parts.proofs.Cases.{cases}
use Rattle.list_parts.proofs.put_hidden.Goals as goal

pub returns : goal.returns
unfolding hidden_text
returns c = search cases
