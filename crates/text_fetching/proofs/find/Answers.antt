-- `text_fetching::find` meets its contract.
-- Assumes nothing.
use Rattle.text_fetching.proofs.Cases.{cases}
use Rattle.text_fetching.proofs.find.Goals as goal

pub returns-then-marked : goal.returns-then-marked
returns-then-marked c = search cases

pub returns : goal.returns
returns c = search cases
