-- `text_names::joint::compare_elsewhere` meets its contract.
-- Assumes nothing.
use Rattle.text_names.proofs.Joined.{cases, there_seen}
use borrow.Author.Rules.{rules}
use Rattle.text_names.proofs.joint.compare_elsewhere.Goals as goal

pub returns-then-same_elsewhere : goal.returns-then-same_elsewhere
returns-then-same_elsewhere c = search cases

pub overflow_cast-by : goal.overflow_cast-by
overflow_cast-by c = search cases

pub overflow_mul-by : goal.overflow_mul-by
overflow_mul-by c = search cases

pub overflow_sub-a : goal.overflow_sub-a
overflow_sub-a c = search cases

pub overflow_sub-b : goal.overflow_sub-b
overflow_sub-b c = search cases

pub returns-in-Some : goal.returns-in-Some
returns-in-Some c = search (there_seen, rules)
