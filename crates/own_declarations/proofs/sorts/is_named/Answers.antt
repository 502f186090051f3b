-- `own_declarations::sorts::is_named` meets its contract.
-- Assumes nothing.
use Rattle.own_declarations.proofs.Cases.{cases}
use Rattle.own_declarations.proofs.sorts.is_named.Goals as goal

pub returns-then-role_at-role : goal.returns-then-role_at-role
returns-then-role_at-role c = search cases

pub returns : goal.returns
returns c = search cases
