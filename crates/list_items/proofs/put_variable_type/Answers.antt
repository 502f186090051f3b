-- `list_items::put_variable_type` meets its contract.
-- Assumes nothing.
use Rattle.list_items.specs.Parts.{variable_type_text}
use Rattle.list_items.proofs.Cases.{cases}
use Rattle.list_items.proofs.put_variable_type.Goals as goal

pub returns : goal.returns
unfolding variable_type_text
returns c = search cases
