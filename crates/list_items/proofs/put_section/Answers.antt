-- `list_items::put_section` meets its contract.
-- Assumes nothing.
use Rattle.list_items.proofs.Cases.{cases}
use Rattle.list_items.proofs.put_section.Goals as goal

pub returns-in-Export : goal.returns-in-Export
returns-in-Export c = search cases

pub returns-in-Hidden : goal.returns-in-Hidden
returns-in-Hidden c = search cases

pub returns-in-Parameter : goal.returns-in-Parameter
returns-in-Parameter c = search cases
