-- `text_spelling::is_operator` meets its contract.
-- Assumes nothing.
use Rattle.text_spelling.proofs.Auto.{on, done}
use Rattle.text_spelling.proofs.Forms.{cases}
use Rattle.text_spelling.proofs.is_operator.Goals as goal

pub loop-i-init : goal.loop-i-init
loop-i-init c = search cases

pub returns-then-name_byte-eq95 : goal.returns-then-name_byte-eq95
returns-then-name_byte-eq95 c = search (done, cases)

pub loop-i-preserved : goal.loop-i-preserved
loop-i-preserved c = search (on, cases)

pub returns : goal.returns
returns c = search (done, cases)
