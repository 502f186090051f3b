-- `list_items::put_type` meets its contract.
-- Assumes nothing.
use Rattle.meaning.specs.Written.{type_text}
use Rattle.list_items.proofs.Cases.{cases}
use Rattle.list_items.proofs.put_type.Goals as goal

pub returns : goal.returns
unfolding type_text
returns c = search cases
