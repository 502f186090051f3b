-- `clause_fitting::items::kind_right` meets its contract.
-- Assumes nothing.
use Rattle.clause_fitting.specs.Fits.{kind_there}
use Rattle.laws_choices.specs.Choices.{choices}
use Rattle.clause_fitting.proofs.items.kind_right.Goals as goal

pub returns-then-kind-eq-SORT : goal.returns-then-kind-eq-SORT
unfolding kind_there
returns-then-kind-eq-SORT c = search choices

pub returns-then-kind-eq-VARIABLE : goal.returns-then-kind-eq-VARIABLE
unfolding kind_there
returns-then-kind-eq-VARIABLE c = search choices

pub returns : goal.returns
unfolding kind_there
returns c = search choices
