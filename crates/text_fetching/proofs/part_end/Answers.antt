-- `text_fetching::part_end` meets its contract. Assumes nothing.
use Rattle.text_names.proofs.Auto.{on, done}
use Rattle.text_fetching.proofs.Cases.{cases}
use Rattle.text_fetching.proofs.part_end.Goals as goal

pub returns-then-ends_part : goal.returns-then-ends_part
returns-then-ends_part c = search (done, cases)

pub loop-left-preserved : goal.loop-left-preserved
loop-left-preserved c = search (on, cases)

pub returns : goal.returns
returns c = search (done, cases)
