-- `evaluate_storing::place_form` meets its contract. Assumes nothing.
use Rattle.evaluate_storing.specs.Places.{place_form}
use borrow.Author.Rules.{rules}
use Rattle.evaluate_storing.proofs.place_form.Goals as goal

pub returns : goal.returns
unfolding place_form
returns c = search rules
