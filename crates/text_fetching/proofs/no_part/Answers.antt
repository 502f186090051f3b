-- `text_fetching::no_part` meets its contract.
-- Assumes nothing.
use Rattle.text_fetching.proofs.Cases.{cases}
use Rattle.text_fetching.proofs.no_part.Goals as goal

pub returns : goal.returns
returns c = search cases
