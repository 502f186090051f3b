-- `text_fetching::ends_part` meets its contract. Assumes nothing.
use Rattle.text_fetching.proofs.Cases.{cases}
use Rattle.text_fetching.proofs.ends_part.Goals as goal

pub returns-then-kind-eq-MODULE_KEY : goal.returns-then-kind-eq-MODULE_KEY
returns-then-kind-eq-MODULE_KEY c = search cases

pub returns-then-kind-eq-END_OF_TEXT : goal.returns-then-kind-eq-END_OF_TEXT
returns-then-kind-eq-END_OF_TEXT c = search cases

pub returns : goal.returns
returns c = search cases
