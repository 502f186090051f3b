-- `text_elements::compare_digits` meets its contract.
-- Assumes nothing.
use Rattle.text_spelling.proofs.Auto.{on, done}
use Rattle.text_elements.proofs.Elements.{cases}
use Rattle.text_elements.proofs.compare_digits.Goals as goal

pub loop-k-init : goal.loop-k-init
loop-k-init c = search cases

pub overflow_add-i : goal.overflow_add-i
overflow_add-i c = search cases

pub overflow_add-j : goal.overflow_add-j
overflow_add-j c = search cases

pub returns-then-p-q : goal.returns-then-p-q
returns-then-p-q c = search (done, cases)

pub loop-k-preserved : goal.loop-k-preserved
loop-k-preserved c = search (on, cases)

pub returns : goal.returns
returns c = search (done, cases)
