-- `answer_lines::put_actual` meets its contract.
-- Assumes nothing.
use Rattle.answer_lines.proofs.Cases.{cases}
use Rattle.answer_lines.proofs.put_actual.Goals as goal

pub returns-then-number-lt-FORMAL_ABSENT : goal.returns-then-number-lt-FORMAL_ABSENT
returns-then-number-lt-FORMAL_ABSENT c = search cases

pub returns-then-number-gt-FORMAL_UNPAIRED : goal.returns-then-number-gt-FORMAL_UNPAIRED
returns-then-number-gt-FORMAL_UNPAIRED c = search cases

pub returns : goal.returns
returns c = search cases
