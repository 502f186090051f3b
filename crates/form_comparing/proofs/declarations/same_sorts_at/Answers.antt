-- `form_comparing::declarations::same_sorts_at` meets its contract.
-- Assumes nothing.
use Rattle.form_comparing.proofs.Told.{sorts_there}
use borrow.Author.Rules.{rules}
use Rattle.form_comparing.proofs.declarations.same_sorts_at.Goals as goal

pub returns : goal.returns
returns c = search (sorts_there, rules)
