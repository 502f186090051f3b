-- `clause_names::may_name` meets its contract.
-- Assumes nothing.
use Rattle.clause_names.specs.Named.{kind_named}
use Rattle.laws_choices.specs.Choices.{choices}
use Rattle.clause_names.proofs.may_name.Goals as goal

pub returns-then-kind-eq-VARIABLE : goal.returns-then-kind-eq-VARIABLE
unfolding kind_named
returns-then-kind-eq-VARIABLE c = search choices

pub returns-then-is_infix : goal.returns-then-is_infix
unfolding kind_named
returns-then-is_infix c = search choices

pub returns-then-is_operator : goal.returns-then-is_operator
unfolding kind_named
returns-then-is_operator c = search choices

pub returns : goal.returns
unfolding kind_named
returns c = search choices
