-- `clause_checks::parameters::keep_parameter` meets its contract.
-- Assumes nothing.
use Rattle.clause_checks.proofs.ParameterCases.{slots}
use Rattle.clause_checks.proofs.parameters.keep_parameter.Goals as goal

pub overflow_mul-a : goal.overflow_mul-a
overflow_mul-a c = search slots

pub overflow_add-a : goal.overflow_add-a
overflow_add-a c = search slots

pub shape_of-work-then-same_word : goal.shape_of-work-then-same_word
shape_of-work-then-same_word c = search slots

pub returns-then-same_word : goal.returns-then-same_word
returns-then-same_word c = search slots

pub overflow_mul-n : goal.overflow_mul-n
overflow_mul-n c = search slots

pub overflow_add-d : goal.overflow_add-d
overflow_add-d c = search slots

pub copy_parameter-requires : goal.copy_parameter-requires
copy_parameter-requires c = search slots

pub overflow_add-result : goal.overflow_add-result
overflow_add-result c = search slots

pub shape_of-work : goal.shape_of-work
shape_of-work c = search slots

pub returns : goal.returns
returns c = search slots
