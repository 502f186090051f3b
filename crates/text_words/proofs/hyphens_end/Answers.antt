-- `text_words::hyphens_end` meets its contract.
-- Assumes nothing.
use lib.Dec.{eqb}
use borrow.Author.Rules.{rules}
use Rattle.text_words.proofs.hyphens_end.Goals as goal

pub returns : goal.returns
returns c = c.run_end.ensures (λ b. eqb b 45) (λ b r f p. search rules)
