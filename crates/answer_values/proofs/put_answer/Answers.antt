-- `answer_values::put_answer` meets its contract. Assumes nothing.
use Rattle.answer_values.proofs.Cases.{cases}
use Rattle.answer_values.proofs.put_answer.Goals as goal

pub returns : goal.returns
returns c = search cases
