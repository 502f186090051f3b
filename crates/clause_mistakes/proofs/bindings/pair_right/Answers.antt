-- `clause_mistakes::bindings::pair_right` meets its contract.
-- Assumes nothing.
use Rattle.clause_mistakes.proofs.BindingCases.{single}
use Rattle.clause_mistakes.proofs.bindings.pair_right.Goals as goal

pub returns-then-is_given : goal.returns-then-is_given
returns-then-is_given c = search single

pub returns-then-is_visible : goal.returns-then-is_visible
returns-then-is_visible c = search single

pub returns-then-find_formal-n : goal.returns-then-find_formal-n
returns-then-find_formal-n c = search single

pub returns : goal.returns
returns c = search single
