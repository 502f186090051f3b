-- `text_tokens::word_stop` meets its contract.
-- Assumes nothing.
use mathlib.Core.Bool.{not}
use lib.Dec.{eqb}
use borrow.Author.Rules.{rules}
use Rattle.text_tokens.proofs.word_stop.Goals as goal

pub returns : goal.returns
returns c = c.run_end.ensures (λ b. not (eqb b 32)) (λ b r f p. search rules)
