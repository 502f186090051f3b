-- `form_comparing::sorts::one_item` meets its contract.
-- Assumes nothing.
use Rattle.form_comparing.proofs.Alike.{item_told, item_names}
use borrow.Author.Rules.{rules}
use Rattle.form_comparing.proofs.sorts.one_item.Goals as goal

pub returns-then-same_word : goal.returns-then-same_word
returns-then-same_word c = search (item_told, rules)

pub returns-else-same_word : goal.returns-else-same_word
returns-else-same_word c = search (item_names, rules)
