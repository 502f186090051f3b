use Rattle.own_completing.specs.Said.{said_form}
use borrow.Author.Rules.{rules}
use Rattle.own_completing.proofs.said.said_form.Goals as goal

pub returns : goal.returns
unfolding said_form
returns c = search rules
