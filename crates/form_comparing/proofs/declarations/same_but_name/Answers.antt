-- `form_comparing::declarations::same_but_name` meets its contract.
-- Assumes nothing.
use Rattle.form_comparing.proofs.Told.{kinds_apart, functions_told, variables_told, sorts_told}
use borrow.Author.Rules.{rules}
use Rattle.form_comparing.proofs.declarations.same_but_name.Goals as goal

pub returns-then-k-l : goal.returns-then-k-l
returns-then-k-l c = search (kinds_apart, rules)

pub returns-then-k-gt-VARIABLE : goal.returns-then-k-gt-VARIABLE
returns-then-k-gt-VARIABLE c = search (functions_told, rules)

pub returns-then-k-eq-VARIABLE : goal.returns-then-k-eq-VARIABLE
returns-then-k-eq-VARIABLE c = search (variables_told, rules)

pub returns : goal.returns
returns c = search (sorts_told, rules)
