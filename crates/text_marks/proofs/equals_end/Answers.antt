-- `text_marks::equals_end` meets its contract.
-- Assumes nothing.
use lib.Dec.{eqb}
use borrow.Author.Rules.{rules}
use Rattle.text_marks.proofs.equals_end.Goals as goal

pub returns : goal.returns
returns c = c.run_end.ensures (λ b. eqb b 61) (λ b r f p. search rules)
