-- `read_equations::equations::no_nodes` meets its contract.
-- Assumes nothing.
use Rattle.read_equations.proofs.Cases.{cases}
use Rattle.read_equations.proofs.equations.no_nodes.Goals as goal

pub returns-in_err-p : goal.returns-in_err-p
returns-in_err-p c = search cases

pub returns : goal.returns
returns c = search cases
