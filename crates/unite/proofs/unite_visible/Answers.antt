-- `unite::unite_visible` meets its contract.
-- Assumes nothing.
use Rattle.unite.proofs.Unions.{unions}
use Rattle.unite.proofs.unite_visible.Goals as goal

pub returns : goal.returns
returns c = search unions
