-- `parts_c::asf_fetch` meets its contract.
-- Assumes nothing.
use Rattle.parts_c.proofs.Cases.{cases}
use Rattle.parts_c.proofs.asf_fetch.Goals as goal

pub returns-then-end-eq0 : goal.returns-then-end-eq0
returns-then-end-eq0 c = search cases

pub overflow_sub-end : goal.overflow_sub-end
overflow_sub-end c = search cases

pub returns : goal.returns
returns c = search cases
