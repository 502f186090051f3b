use borrow.Author.Rules.{rules}
use Rattle.form_keeping.specs.Keeping.{nothing_at}
use Rattle.form_keeping.proofs.nothing_at.Goals as goal

pub returns : goal.returns
unfolding nothing_at
returns c = search rules
