-- `form_comparing::sorts::same_sort` meets its contract.
-- Assumes nothing.
use Rattle.form_comparing.proofs.Alike.{sort_self, sort_apart, sort_visible, sort_hidden}
use borrow.Author.Rules.{rules}
use Rattle.form_comparing.proofs.sorts.same_sort.Goals as goal

pub returns-then-a-b : goal.returns-then-a-b
returns-then-a-b c = search (sort_self, rules)

pub returns-then-a-b-2 : goal.returns-then-a-b-2
returns-then-a-b-2 c = search (sort_apart, rules)

pub returns-then-a-eq0 : goal.returns-then-a-eq0
returns-then-a-eq0 c = search (sort_visible, rules)

pub returns : goal.returns
returns c = search (sort_hidden, rules)
