-- `input_lines::said_by` meets its contract.
-- Assumes nothing.
use Rattle.input_lines.proofs.Cases.{cases}
use Rattle.input_lines.proofs.said_by.Goals as goal

pub overflow_mul-n : goal.overflow_mul-n
overflow_mul-n c = search cases

pub overflow_add-n : goal.overflow_add-n
overflow_add-n c = search cases

pub loop-b-preserved : goal.loop-b-preserved
loop-b-preserved c = search cases

pub returns : goal.returns
returns c = search cases
