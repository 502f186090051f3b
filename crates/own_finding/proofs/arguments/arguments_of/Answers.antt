-- `own_finding::arguments::arguments_of` meets its contract.
-- Assumes nothing.
use Rattle.own_finding.proofs.Cases.{cases}
use Rattle.own_finding.proofs.arguments.arguments_of.Goals as goal

pub returns-then-role-eq-HEAD : goal.returns-then-role-eq-HEAD
returns-then-role-eq-HEAD c = search cases

pub returns-then-role-eq-PREFIX : goal.returns-then-role-eq-PREFIX
returns-then-role-eq-PREFIX c = search cases

pub returns-then-role-eq-INFIX : goal.returns-then-role-eq-INFIX
returns-then-role-eq-INFIX c = search cases

pub returns : goal.returns
returns c = search cases
