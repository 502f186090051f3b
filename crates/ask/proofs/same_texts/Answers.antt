-- `ask::same_texts` meets its contract. Assumes nothing.
use Rattle.ask.proofs.Cases.{comparing_texts}
use Rattle.ask.proofs.same_texts.Goals as goal

pub returns-then-same_bytes : goal.returns-then-same_bytes
returns-then-same_bytes c = search comparing_texts

pub returns : goal.returns
returns c = search comparing_texts
