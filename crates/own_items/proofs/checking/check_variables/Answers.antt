-- `own_items::checking::check_variables` meets its contract.
-- Assumes nothing.
use Rattle.own_items.proofs.Told.{telling}
use Rattle.own_items.proofs.checking.check_variables.Goals as goal

pub returns : goal.returns
returns c = search telling
