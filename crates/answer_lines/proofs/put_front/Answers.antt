-- `answer_lines::put_front` meets its contract.
-- Assumes nothing.
use Rattle.answer_lines.proofs.Cases.{cases}
use Rattle.answer_lines.proofs.put_front.Goals as goal

pub returns : goal.returns
returns c = search cases
