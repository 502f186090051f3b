-- `text_places::token_end` meets its contract.
-- Assumes nothing.
use Rattle.text_places.proofs.Places.{cases}
use Rattle.text_places.proofs.token_end.Goals as goal

pub returns : goal.returns
returns c = search cases
