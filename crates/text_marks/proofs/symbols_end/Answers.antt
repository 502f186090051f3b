-- `text_marks::symbols_end` meets its contract.
-- Assumes nothing.
use Rattle.meaning.specs.Tokens.{is_symbol}
use borrow.Author.Rules.{rules}
use Rattle.text_marks.proofs.symbols_end.Goals as goal

pub returns : goal.returns
returns c = c.run_end.ensures is_symbol (λ b r f p. search rules)
