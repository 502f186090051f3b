-- `list_pen::put_bytes` meets its contract.
-- Assumes nothing.
use Rattle.list_pen.proofs.Cases.{Copying}
use Rattle.list_pen.proofs.put_bytes.Given as goal

abbrev pub invariant-loop-byte : goal.invariant-loop-byte
invariant-loop-byte l = Copying l.limit l.byte-items l.at l.initial.out l.byte-index l.to l.out
