-- `input_lines::has_request` meets its contract.
-- Assumes nothing.
use Rattle.input_lines.proofs.Cases.{cases}
use Rattle.input_lines.proofs.has_request.Goals as goal

pub returns-then-input-e : goal.returns-then-input-e
returns-then-input-e c = search cases

pub returns-then-e-gt50 : goal.returns-then-e-gt50
returns-then-e-gt50 c = search cases

pub slice_bounds-same_bytes-end : goal.slice_bounds-same_bytes-end
slice_bounds-same_bytes-end c = search cases

pub returns : goal.returns
returns c = search cases
