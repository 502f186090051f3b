-- `list_lines::put_origin_line` meets its contract.
-- Assumes nothing.
use Rattle.list_lines.specs.Lines.{origin_line_of}
use Rattle.list_lines.proofs.Cases.{cases}
use Rattle.list_lines.proofs.put_origin_line.Goals as goal

pub returns : goal.returns
unfolding origin_line_of
returns c = search cases
