-- `text_by_bytes::compare_bytes` meets its contract.
-- Assumes nothing.
use mathlib.Core.Path.{ap, ◌∙◌}
use Rattle.std.specs.Ordering.{ordering_index}
use Rattle.text_runs.specs.Codes.{slices_told}
use Rattle.text_by_bytes.proofs.compare_bytes.Goals as goal

pub returns : goal.returns
returns c = ap ordering_index c.cmp.ensures ∙ slices_told _ _
