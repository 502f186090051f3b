use borrow.Author.Rules.{rules}
use Rattle.own_completing.specs.Completed.{own_of}
use Rattle.own_completing.proofs.complete.own_of.Goals as goal

pub returns : goal.returns
unfolding own_of
returns c = search rules
