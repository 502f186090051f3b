-- `read_terms::term::read_token` meets its contract.
-- Assumes nothing.
use Rattle.read_steps.specs.Model.{prefixed, term_operator}
use Rattle.read_terms.specs.Parts.{token_alone}
use Rattle.read_kept.proofs.Cases.{nodes}
use Rattle.read_terms.proofs.term.read_token.Goals as goal

pub returns-then-next_is : goal.returns-then-next_is
unfolding token_alone prefixed term_operator
returns-then-next_is c = search nodes

pub returns : goal.returns
unfolding token_alone prefixed term_operator
returns c = search nodes
