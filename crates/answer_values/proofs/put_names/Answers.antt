-- `answer_values::put_names` meets its contract. Assumes nothing.
use Rattle.answer_values.proofs.Cases.{cases}
use Rattle.answer_values.proofs.put_names.Goals as goal

pub returns : goal.returns
returns c = search cases
