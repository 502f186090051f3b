-- `text_names::joint::same_elsewhere` meets its contract.
-- Assumes nothing.
use Rattle.text_names.proofs.Joined.{cases, there_same}
use borrow.Author.Rules.{rules}
use Rattle.text_names.proofs.joint.same_elsewhere.Goals as goal

pub overflow_cast-by : goal.overflow_cast-by
overflow_cast-by c = search cases

pub overflow_mul-by : goal.overflow_mul-by
overflow_mul-by c = search cases

pub overflow_sub-a : goal.overflow_sub-a
overflow_sub-a c = search cases

pub overflow_sub-b : goal.overflow_sub-b
overflow_sub-b c = search cases

pub returns-then-both_behind : goal.returns-then-both_behind
returns-then-both_behind c = search (there_same, rules)
