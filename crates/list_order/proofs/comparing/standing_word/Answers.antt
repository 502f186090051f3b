-- `list_order::comparing::standing_word` meets its contract. Assumes nothing.
use Rattle.list_order.proofs.CompareCases.{cases}
use Rattle.list_order.proofs.comparing.standing_word.Goals as goal

pub returns-in-Export : goal.returns-in-Export
returns-in-Export c = search cases

pub returns-in-Hidden : goal.returns-in-Hidden
returns-in-Hidden c = search cases

pub returns-in-Parameter : goal.returns-in-Parameter
returns-in-Parameter c = search cases
