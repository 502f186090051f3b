-- `text_spelling::name_byte` meets its contract.
-- Assumes nothing.
use Rattle.text_spelling.proofs.Forms.{cases}
use Rattle.text_spelling.proofs.name_byte.Goals as goal

pub returns-then-i-lead : goal.returns-then-i-lead
returns-then-i-lead c = search cases

pub overflow_add-lead : goal.overflow_add-lead
overflow_add-lead c = search cases

pub overflow_add-w : goal.overflow_add-w
overflow_add-w c = search cases

pub returns-then-i-lead-2 : goal.returns-then-i-lead-2
returns-then-i-lead-2 c = search cases

pub overflow_add-lead-3 : goal.overflow_add-lead-3
overflow_add-lead-3 c = search cases

pub returns-then-i-lead-3 : goal.returns-then-i-lead-3
returns-then-i-lead-3 c = search cases

pub returns : goal.returns
returns c = search cases
