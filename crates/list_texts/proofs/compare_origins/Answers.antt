-- `list_texts::compare_origins` meets its contract. Assumes nothing.
use Rattle.list_texts.proofs.Cases.{cases}
use Rattle.list_texts.proofs.compare_origins.Goals as goal

pub returns : goal.returns
returns c = search cases
