-- `form_comparing::sorts::same_hidden` meets its contract.
-- Assumes nothing.
use Rattle.form_comparing.proofs.Alike.{hidden_told, hidden_names}
use borrow.Author.Rules.{rules}
use Rattle.form_comparing.proofs.sorts.same_hidden.Goals as goal

pub returns-then-same_name_at : goal.returns-then-same_name_at
returns-then-same_name_at c = search (hidden_told, rules)

pub returns-else-same_name_at : goal.returns-else-same_name_at
returns-else-same_name_at c = search (hidden_names, rules)
