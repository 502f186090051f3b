-- `text_spelling::is_digit` meets its contract.
-- Assumes nothing.
use Rattle.meaning.specs.Names.{is_digit}
use Rattle.text_spelling.proofs.is_digit.Goals as goal

pub returns : goal.returns
unfolding is_digit
returns c = c.is_ascii_digit.ensures.value
