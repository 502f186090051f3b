-- `unite_checks::room::room` meets its contract. Assumes nothing.
use Rattle.unite_checks.proofs.VerdictCases.{cases}
use Rattle.unite_checks.proofs.room.room.Goals as goal

pub returns-then-parameters-gt-PARAMETER_ROOM : goal.returns-then-parameters-gt-PARAMETER_ROOM
returns-then-parameters-gt-PARAMETER_ROOM c = search cases

pub returns-then-items-gt-ITEM_ROOM : goal.returns-then-items-gt-ITEM_ROOM
returns-then-items-gt-ITEM_ROOM c = search cases

pub returns-then-equations-gt-EQUATION_ROOM : goal.returns-then-equations-gt-EQUATION_ROOM
returns-then-equations-gt-EQUATION_ROOM c = search cases

pub returns : goal.returns
returns c = search cases
