-- `read_both::move_entries` meets its contract.
-- Assumes nothing.
use Rattle.read_both.proofs.Cases.{cases, moving_end}
use Rattle.read_both.proofs.move_entries.Goals as goal

pub loop-entry-init : goal.loop-entry-init
loop-entry-init c = search cases

pub loop-entry-preserved : goal.loop-entry-preserved
loop-entry-preserved c = search cases

pub returns : goal.returns
returns c = moving_end c.args.by c.args.n c.args.tape.now _ _ c.loop-entry.invariant c.loop-entry-test.false
