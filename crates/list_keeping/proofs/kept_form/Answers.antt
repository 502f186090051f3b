-- `list_keeping::kept_form` meets its contract. Assumes nothing.
use borrow.Author.Rules.{rules}
use Rattle.list_keeping.specs.Nodes.{kept_form}
use Rattle.list_keeping.proofs.kept_form.Goals as goal

pub returns : goal.returns
unfolding kept_form
returns c = search rules
