-- `read_equations::equations::section_equations` meets its contract.
-- Assumes nothing.
use Rattle.read_steps.specs.Model.{optional, equations, some_of}
use Rattle.read_steps.proofs.Rules.{grammar}
use Rattle.read_equations.proofs.equations.section_equations.Goals as goal

pub returns-then-next_is-2 : goal.returns-then-next_is-2
unfolding optional equations some_of
returns-then-next_is-2 c = search grammar

pub returns-then-next_is : goal.returns-then-next_is
unfolding optional equations some_of
returns-then-next_is c = search grammar

pub returns : goal.returns
unfolding optional equations some_of
returns c = search grammar
