-- `read_equations::equations::read_group` meets its contract.
-- Assumes nothing.
use Rattle.read_steps.specs.Model.{variable_group}
use Rattle.meaning.specs.Numbers.{text_size}
use Rattle.read_steps.proofs.Rules.{grammar}
use Rattle.read_equations.proofs.equations.read_group.Goals as goal

pub returns : goal.returns
unfolding variable_group text_size
returns c = search grammar
