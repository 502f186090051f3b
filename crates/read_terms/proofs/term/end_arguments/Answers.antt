-- `read_terms::term::end_arguments` meets its contract.
-- Assumes nothing.
use Rattle.read_steps.proofs.Laws.{then}
use Rattle.read_terms.specs.Parts.{arguments_end}
use borrow.Author.Rules.{rules}
use Rattle.read_terms.proofs.term.end_arguments.Goals as goal

pub returns : goal.returns
unfolding arguments_end
returns c = search (then, rules)
