use borrow.Author.Rules.{rules}
use Rattle.unite.specs.United.{with_items}
use Rattle.own_completing.proofs.said.seen_form.Goals as goal

pub returns : goal.returns
unfolding with_items
returns c = search rules
