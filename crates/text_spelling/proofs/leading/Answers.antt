-- `text_spelling::leading` meets its contract.
-- Assumes nothing.
use Rattle.text_spelling.proofs.Forms.{cases}
use Rattle.text_spelling.proofs.leading.Goals as goal

pub returns-then-w-eq2 : goal.returns-then-w-eq2
returns-then-w-eq2 c = search cases

pub returns-else-w-eq2 : goal.returns-else-w-eq2
returns-else-w-eq2 c = search cases
