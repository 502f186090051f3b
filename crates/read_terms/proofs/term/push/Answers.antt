-- `read_terms::term::push` meets its contract. The loop keeps what is to be pushed: what was at first comes to what is now.
-- Assumes nothing.
use Rattle.read_terms.proofs.Cases.{cases}
use Rattle.read_terms.proofs.term.push.Goals as goal

pub loop-at-init : goal.loop-at-init
loop-at-init c = search cases

pub loop-at-preserved : goal.loop-at-preserved
loop-at-preserved c = search cases

pub returns : goal.returns
returns c = search cases
