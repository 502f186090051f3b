-- `unite_checks::room::total_room` meets its contract. Assumes nothing.
use Rattle.unite_checks.proofs.VerdictCases.{cases}
use Rattle.unite_checks.proofs.room.total_room.Goals as goal

pub returns-then-items-gt-ITEM_TOTAL : goal.returns-then-items-gt-ITEM_TOTAL
returns-then-items-gt-ITEM_TOTAL c = search cases

pub returns-then-equations-gt-EQUATION_TOTAL : goal.returns-then-equations-gt-EQUATION_TOTAL
returns-then-equations-gt-EQUATION_TOTAL c = search cases

pub returns-then-nodes-gt-NODE_TOTAL : goal.returns-then-nodes-gt-NODE_TOTAL
returns-then-nodes-gt-NODE_TOTAL c = search cases

pub returns : goal.returns
returns c = search cases
