-- `parts_c::asf_line` meets its contract. Assumes nothing.
use Rattle.parts_c.proofs.Cases.{cases}
use Rattle.parts_c.proofs.asf_line.Goals as goal

pub returns-in-Keyed : goal.returns-in-Keyed
returns-in-Keyed c = search cases

pub returns-in-End : goal.returns-in-End
returns-in-End c = search cases

pub returns-in-Bad : goal.returns-in-Bad
returns-in-Bad c = search cases
