-- `input_lines::said_by` meets its contract.
-- Assumes nothing.
use Rattle.input_lines.proofs.Cases.{Saying}
use Rattle.input_lines.proofs.said_by.Given as goal

abbrev pub invariant-loop-b : goal.invariant-loop-b
invariant-loop-b l = Saying l.written l.b-index l.n
