-- `unite_parameters::is_other` meets its contract.
-- Assumes nothing.
use Rattle.unite_parameters.proofs.Cases.{rows}
use Rattle.unite_parameters.proofs.is_other.Goals as goal

pub returns-then-shape_agrees : goal.returns-then-shape_agrees
returns-then-shape_agrees c = search rows

pub returns-then-typed : goal.returns-then-typed
returns-then-typed c = search rows

pub returns-then-at-count : goal.returns-then-at-count
returns-then-at-count c = search rows

pub returns-then-in_parameter : goal.returns-then-in_parameter
returns-then-in_parameter c = search rows

pub returns : goal.returns
returns c = search rows
