-- The cycle of calls of reading meets its contracts.
use Rattle.read_steps.specs.Model.{operands}
use Rattle.read_terms.specs.Parts.{operands_from}
use Rattle.read_steps.proofs.Lists.{begins_loop, separated_ends, separated_full, separated_bad}
use borrow.Author.Rules.{rules}
use Rattle.read_terms.proofs.Cases.{arguments_again, term_read, operands_again, operands_over, operands_end, primary_flat, primary_inner, primary_name, named_alone, named_applied}
use Rattle.read_terms.proofs.term.+reading.Goals as goal

pub read_arguments-loop-init : goal.read_arguments-loop-init
read_arguments-loop-init t c = search (begins_loop, rules)

pub read_arguments-loop-preserved : goal.read_arguments-loop-preserved
read_arguments-loop-preserved t c = search (arguments_again, rules)

pub read_arguments-returns-else-follows : goal.read_arguments-returns-else-follows
read_arguments-returns-else-follows t c = search (separated_ends, rules)

pub read_arguments-returns-then-begins : goal.read_arguments-returns-then-begins
read_arguments-returns-then-begins t c = search (separated_full, rules)

pub read_arguments-returns : goal.read_arguments-returns
read_arguments-returns t c = search (separated_bad, rules)

pub read_deep-returns : goal.read_deep-returns
read_deep-returns t c = search (term_read, rules)

pub read_named-returns-then-follows : goal.read_named-returns-then-follows
read_named-returns-then-follows t c = search (
  named_applied,
  c.end_arguments.ensures,
  c.read_arguments.ensures,
  c.pass_token.ensures,
  c.if-follows.true,
  c.follows.ensures,
  c.pass_name.ensures,
  rules,
)

pub read_named-returns : goal.read_named-returns
read_named-returns t c = search (named_alone, rules)

pub read_operands-loop-state-init : goal.read_operands-loop-state-init
read_operands-loop-state-init t c = search (begins_loop, rules)

pub read_operands-returns-then-left-eq0 : goal.read_operands-returns-then-left-eq0
unfolding operands operands_from
read_operands-returns-then-left-eq0 t c = search (operands_over, rules)

pub read_operands-loop-state-preserved : goal.read_operands-loop-state-preserved
read_operands-loop-state-preserved t c = search (operands_again, rules)

pub read_operands-returns-else-follows : goal.read_operands-returns-else-follows
unfolding operands operands_from
read_operands-returns-else-follows t c = search (operands_end, rules)

pub read_primary-returns-then-depth-eq0 : goal.read_primary-returns-then-depth-eq0
read_primary-returns-then-depth-eq0 t c = search (primary_flat, rules)

pub read_primary-returns-then-follows : goal.read_primary-returns-then-follows
read_primary-returns-then-follows t c = search (primary_inner, rules)

pub read_primary-returns : goal.read_primary-returns
read_primary-returns t c = search (primary_name, rules)
