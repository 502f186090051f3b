-- `form_comparing::declarations::same_declared` meets its contract.
-- Assumes nothing.
use Rattle.form_comparing.proofs.Told.{one_declaration, declared_told, declared_names}
use borrow.Author.Rules.{rules}
use Rattle.form_comparing.proofs.declarations.same_declared.Goals as goal

pub returns-then-d-e : goal.returns-then-d-e
returns-then-d-e c = search (one_declaration, rules)

pub returns-then-same_name_at : goal.returns-then-same_name_at
returns-then-same_name_at c = search (declared_told, rules)

pub returns-else-same_name_at : goal.returns-else-same_name_at
returns-else-same_name_at c = search (declared_names, rules)
