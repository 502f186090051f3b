-- `text_spelling::trailing` meets its contract.
-- Assumes nothing.
use Rattle.text_spelling.proofs.Forms.{cases}
use Rattle.text_spelling.proofs.trailing.Goals as goal

pub returns-then-w-eq1 : goal.returns-then-w-eq1
returns-then-w-eq1 c = search cases

pub returns-else-w-eq1 : goal.returns-else-w-eq1
returns-else-w-eq1 c = search cases
