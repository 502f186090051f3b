-- `unite::unite_hidden_items` meets its contract.
-- Assumes nothing.
use Rattle.unite.proofs.Unions.{unions}
use Rattle.unite.proofs.unite_hidden_items.Goals as goal

pub returns : goal.returns
returns c = search unions
