-- `reader::visible_end` meets its contract: what is left of the front is passed as the whole is.
-- Assumes nothing.
use Rattle.text_names.proofs.Auto.{on, done}
use Rattle.reader.proofs.Front.{front_start, front_on, front_off, front_out}
use borrow.Author.Rules.{rules}
use Rattle.reader.proofs.visible_end.Goals as goal

pub loop-init : goal.loop-init
loop-init c = search (front_start, rules)

pub loop-preserved : goal.loop-preserved
loop-preserved c = search (on, front_on, rules)

pub returns-else-is_front : goal.returns-else-is_front
returns-else-is_front c = search (done, front_off, rules)

pub returns : goal.returns
returns c = search (done, front_out, rules)
