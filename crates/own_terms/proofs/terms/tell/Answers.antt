use Rattle.own_terms.proofs.Words.{worded}
use Rattle.own_terms.proofs.terms.tell.Goals as goal

pub returns-in_default : goal.returns-in_default
returns-in_default c = search worded

pub returns : goal.returns
returns c = search worded
