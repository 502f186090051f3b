-- `list_texts::compare_items` meets its contract. Assumes nothing.
use Rattle.list_texts.proofs.Cases.{cases}
use Rattle.list_texts.proofs.compare_items.Goals as goal

pub returns-in-Some : goal.returns-in-Some
returns-in-Some c = search cases

pub loop-i-preserved : goal.loop-i-preserved
loop-i-preserved c = search cases

pub returns : goal.returns
returns c = search cases
