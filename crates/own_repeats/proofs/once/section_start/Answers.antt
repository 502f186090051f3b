-- `own_repeats::once::section_start` meets its contract.
-- Assumes nothing.
use Rattle.own_repeats.proofs.Cases.{cases}
use Rattle.own_repeats.proofs.once.section_start.Goals as goal

pub overflow_cast-result : goal.overflow_cast-result
overflow_cast-result c = search cases

pub returns-then-is_parameter_role : goal.returns-then-is_parameter_role
returns-then-is_parameter_role c = search cases

pub returns : goal.returns
returns c = search cases
