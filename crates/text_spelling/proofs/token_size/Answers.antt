-- `text_spelling::token_size` meets its contract.
-- Assumes nothing.
use Rattle.text_spelling.proofs.Joined.{cases}
use Rattle.text_spelling.proofs.token_size.Goals as goal

pub returns : goal.returns
returns c = search cases
