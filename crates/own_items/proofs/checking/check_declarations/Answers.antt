-- `own_items::checking::check_declarations` meets its contract.
-- Assumes nothing.
use Rattle.own_items.proofs.Told.{telling}
use Rattle.own_items.proofs.checking.check_declarations.Goals as goal

pub returns-in_err-available : goal.returns-in_err-available
returns-in_err-available c = search telling

pub returns : goal.returns
returns c = search telling
