-- `text_spelling::name_size` meets its contract.
-- Assumes nothing.
use Rattle.text_spelling.proofs.Forms.{cases}
use Rattle.text_spelling.proofs.name_size.Goals as goal

pub overflow_add-result : goal.overflow_add-result
overflow_add-result c = search cases

pub overflow_add-result-2 : goal.overflow_add-result-2
overflow_add-result-2 c = search cases

pub returns : goal.returns
returns c = search cases
