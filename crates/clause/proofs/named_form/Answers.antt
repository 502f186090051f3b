-- `clause::named_form` meets its contract.
-- Assumes nothing.
use borrow.Author.Rules.{rules}
use Rattle.unite.specs.United.{empty_in, with_items}
use Rattle.clause.specs.Binding.{named_in}
use Rattle.clause.proofs.named_form.Goals as goal

pub returns : goal.returns
unfolding named_in with_items empty_in
returns c = search rules
