-- `read_both::move_entries` meets its contract.
-- Assumes nothing.
use Rattle.std.proofs.Common.{length}
use Rattle.read_both.proofs.Cases.{Changing}
use Rattle.read_both.specs.Both.{shifted}
use Rattle.read_both.proofs.move_entries.Given as goal

abbrev pub invariant-loop-entry : goal.invariant-loop-entry
invariant-loop-entry l = Changing (shifted l.by) (length l.initial.entry-items) l.initial.entry-items l.entry-items l.entry-index
