-- `text_comparing::digits_end` meets its contract.
-- Assumes nothing.
use mathlib.Core.Path.{◌∙◌}
use borrow.Author.Rules.{rules}
use Rattle.meaning.specs.Names.{is_digit}
use Rattle.text_comparing.proofs.AtOnce.{run_leading}
use Rattle.text_comparing.proofs.digits_end.Goals as goal

pub returns : goal.returns
returns c = c.run_end.ensures is_digit (λ b r f p. search rules) ∙ run_leading is_digit c.args.text.now c.args.at
