-- `text_spelling::is_infix` meets its contract.
-- Assumes nothing.
use Rattle.text_spelling.proofs.Forms.{cases}
use Rattle.text_spelling.proofs.is_infix.Goals as goal

pub returns : goal.returns
returns c = search cases
