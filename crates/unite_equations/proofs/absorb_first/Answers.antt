-- `unite_equations::absorb_first` meets its contract.
-- Assumes nothing.
use Rattle.unite_equations.proofs.Turns.{turns}
use Rattle.unite_equations.proofs.absorb_first.Goals as goal

pub loop-k-preserved : goal.loop-k-preserved
loop-k-preserved c = search turns

pub returns : goal.returns
returns c = search turns
