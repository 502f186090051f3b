-- `answer_lines::put_answer` meets its contract.
-- Assumes nothing.
use Rattle.answer_lines.proofs.Cases.{answer_accepted, answer_refused}
use Rattle.answer_lines.proofs.put_answer.Goals as goal

pub returns-then-number-eq-ACCEPTED : goal.returns-then-number-eq-ACCEPTED
returns-then-number-eq-ACCEPTED c =
    answer_accepted _ _ _ _ _ _ _ c.put_number-a.ensures c.put_number-b.ensures c.if-number-eq-ACCEPTED.true c.put_bytes.ensures

pub returns : goal.returns
returns c =
    answer_refused _ _ _ _ _ _ _ c.put_number-a.ensures c.put_number-b.ensures c.if-number-eq-ACCEPTED.false c.put_refusal.ensures
