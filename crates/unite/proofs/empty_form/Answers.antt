-- `unite::empty_form` meets its contract.
-- Assumes nothing.
use borrow.Author.Rules.{rules}
use Rattle.unite.specs.United.{empty_in}
use Rattle.unite.proofs.empty_form.Goals as goal

pub returns : goal.returns
unfolding empty_in
returns c = search rules
