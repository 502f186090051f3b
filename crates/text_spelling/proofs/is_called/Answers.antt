-- `text_spelling::is_called` meets its contract.
-- Assumes nothing.
use Rattle.text_spelling.proofs.Auto.{on, done}
use Rattle.text_spelling.proofs.Joined.{cases}
use Rattle.text_spelling.proofs.is_called.Goals as goal

pub returns-then-n-asked : goal.returns-then-n-asked
returns-then-n-asked c = search (done, cases)

pub loop-i-init : goal.loop-i-init
loop-i-init c = search cases

pub bounds-asked-i : goal.bounds-asked-i
bounds-asked-i c = search cases

pub returns-then-p-asked : goal.returns-then-p-asked
returns-then-p-asked c = search (done, cases)

pub loop-i-preserved : goal.loop-i-preserved
loop-i-preserved c = search (on, cases)

pub returns : goal.returns
returns c = search (done, cases)
