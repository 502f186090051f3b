-- `list_texts::type_not_after` meets its contract. Assumes nothing.
use Rattle.list_texts.proofs.Cases.{cases}
use Rattle.list_texts.proofs.type_not_after.Goals as goal

pub returns : goal.returns
returns c = search cases
