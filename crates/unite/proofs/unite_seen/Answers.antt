-- `unite::unite_seen` meets its contract.
-- Assumes nothing.
use Rattle.unite.proofs.Unions.{seen}
use Rattle.unite.proofs.unite_seen.Goals as goal

pub unite_visible-requires : goal.unite_visible-requires
unite_visible-requires c = search seen
