-- `text_marks::layout_end` meets its contract.
-- Assumes nothing.
use Rattle.meaning.specs.Tokens.{is_layout}
use borrow.Author.Rules.{rules}
use Rattle.text_marks.proofs.layout_end.Goals as goal

pub returns : goal.returns
returns c = c.run_end.ensures is_layout (λ b r f p. search rules)
