-- `form::equations::read_equation` meets its contract.
-- Assumes nothing.
use Rattle.form.proofs.Cases.{cases}
use Rattle.form.proofs.equations.read_equation.Goals as goal

pub returns : goal.returns
returns c = search cases
