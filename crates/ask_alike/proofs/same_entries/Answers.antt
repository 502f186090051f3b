-- `ask_alike::same_entries` meets its contract.
-- Assumes nothing.
use Rattle.ask_alike.proofs.Cases.{cases, compare_on}
use Rattle.std.proofs.Common.{arith}
use Rattle.ask_alike.proofs.same_entries.Goals as goal

pub loop-init : goal.loop-init
loop-init c = search cases

pub loop-preserved : goal.loop-preserved
loop-preserved c = compare_on _ _ _ _ _ _ _ _ _ _ c.loop.invariant _ (omega arith) c.same_entry.ensures _ (omega arith) c.if-not-same_entry.false

pub returns-then-not-same_entry : goal.returns-then-not-same_entry
returns-then-not-same_entry c = search cases

pub returns : goal.returns
returns c = search cases
