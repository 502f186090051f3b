-- `input_lines::is_decimal` meets its contract.
-- Assumes nothing.
use Rattle.input_lines.proofs.Cases.{cases}
use Rattle.input_lines.proofs.is_decimal.Goals as goal

pub slice_bounds-same_bytes-end : goal.slice_bounds-same_bytes-end
slice_bounds-same_bytes-end c = search cases

pub returns : goal.returns
returns c = search cases
