-- `list_texts::item_part` meets its contract. Assumes nothing.
use Rattle.list_texts.proofs.Cases.{cases}
use Rattle.list_texts.proofs.item_part.Goals as goal

pub returns : goal.returns
returns c = search cases
