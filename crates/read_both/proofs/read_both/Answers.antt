-- `read_both::read_both` meets its contract.
-- Assumes nothing.
use Rattle.std.proofs.Common.{rules}
use Rattle.read_both.specs.Laws.{no_library, library_refused, library_stands}
use Rattle.read_both.proofs.read_both.Goals as goal

pub read_customer-requires : goal.read_customer-requires
read_customer-requires c = search (no_library, rules)

pub read_customer-requires-in-Ok : goal.read_customer-requires-in-Ok
read_customer-requires-in-Ok c = search (library_stands, rules)

pub returns-in-Err : goal.returns-in-Err
returns-in-Err c = search (library_refused, rules)
