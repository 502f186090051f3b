-- `unite::unite_hidden_within` meets its contract.
-- Assumes nothing.
use Rattle.unite.proofs.Unions.{unions}
use Rattle.unite.proofs.unite_hidden_within.Goals as goal

pub returns-then-more-eq0 : goal.returns-then-more-eq0
returns-then-more-eq0 c = search unions

pub returns : goal.returns
returns c = search unions
