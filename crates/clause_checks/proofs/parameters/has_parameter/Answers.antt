-- `clause_checks::parameters::has_parameter` meets its contract.
-- Assumes nothing.
use Rattle.clause_checks.proofs.RowSearches.{seeks}
use Rattle.clause_checks.proofs.parameters.has_parameter.Goals as goal

pub loop-i-init : goal.loop-i-init
loop-i-init c = search seeks

pub overflow_cast-parameters : goal.overflow_cast-parameters
overflow_cast-parameters c = search seeks

pub overflow_cast-i : goal.overflow_cast-i
overflow_cast-i c = search seeks

pub overflow_mul-i : goal.overflow_mul-i
overflow_mul-i c = search seeks

pub overflow_add-parameters : goal.overflow_add-parameters
overflow_add-parameters c = search seeks

pub returns-then-same_word : goal.returns-then-same_word
returns-then-same_word c = search seeks

pub loop-i-preserved : goal.loop-i-preserved
loop-i-preserved c = search seeks

pub returns : goal.returns
returns c = search seeks
