-- `read_terms::term::join` meets its contract.
-- Assumes nothing.
use Rattle.read_steps.specs.Model.{bare_operator, term_operator, joins}
use Rattle.read_kept.proofs.Cases.{nodes}
use Rattle.read_terms.proofs.term.join.Goals as goal

pub overflow_mul-w : goal.overflow_mul-w
unfolding bare_operator term_operator joins
overflow_mul-w c = search nodes

pub overflow_cast-insert : goal.overflow_cast-insert
unfolding bare_operator term_operator joins
overflow_cast-insert c = search nodes

pub overflow_add-w : goal.overflow_add-w
unfolding bare_operator term_operator joins
overflow_add-w c = search nodes

pub returns-then-next_short : goal.returns-then-next_short
unfolding bare_operator term_operator joins
returns-then-next_short c = search nodes

pub returns-then-next_is : goal.returns-then-next_is
unfolding bare_operator term_operator joins
returns-then-next_is c = search nodes

pub returns : goal.returns
unfolding bare_operator term_operator joins
returns c = search nodes
