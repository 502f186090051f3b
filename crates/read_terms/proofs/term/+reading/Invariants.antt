-- Six for each bracket that may still open: a primary is below the
-- operands, those below their term, a term below one inside brackets, that below the arguments, those below their name, and what stands one bracket deeper
-- below a primary. Each loop keeps what is to be read: what was at first comes to what is now.
-- Assumes nothing.
use Rattle.read_steps.specs.Model.{◌>>◌, separated, many, operand, primary, term}
use Rattle.meaning.specs.Names.{byte}
use Rattle.meaning.specs.Grammar.{begins_term}
use Rattle.meaning.specs.Tokens.{operator}
use Rattle.read_kept.specs.Kept.{kept}
use lib.Dec.{eqb}
use Rattle.read_steps.proofs.Lists.{Comes}
use Prim.Native.Nat.{◌+◌, ◌-◌, ◌*◌}
use Rattle.read_terms.proofs.term.+reading.Given as goal

abbrev pub decreases-read_arguments : goal.decreases-read_arguments
decreases-read_arguments l = l.depth * 6 + 4

abbrev pub decreases-read_deep : goal.decreases-read_deep
decreases-read_deep l = l.depth * 6 + 2

abbrev pub decreases-read_inside : goal.decreases-read_inside
decreases-read_inside l = l.depth * 6 + 3

abbrev pub decreases-read_named : goal.decreases-read_named
decreases-read_named l = l.depth * 6 + 5

abbrev pub decreases-read_operands : goal.decreases-read_operands
decreases-read_operands l = l.depth * 6 + 1

abbrev pub decreases-read_primary : goal.decreases-read_primary
decreases-read_primary l = l.depth * 6

abbrev pub invariant-read_arguments-loop : goal.invariant-read_arguments-loop
invariant-read_arguments-loop l =
    Comes (separated l.text.now l.left (byte ",") begins_term (term l.text.now l.depth))
    (separated l.text.now (l.left - l.counter) (byte ",") begins_term (term l.text.now l.depth))
    (kept l.initial.state) l.initial.tape (kept l.state) l.tape

abbrev pub invariant-read_operands-loop-state : goal.invariant-read_operands-loop-state
invariant-read_operands-loop-state l =
    Comes (primary l.text.now l.depth >> many l.text.now 64 (λ kind. eqb kind operator) (operand l.text.now l.start (primary l.text.now l.depth)))
    (primary l.text.now l.depth >> many l.text.now l.left (λ kind. eqb kind operator) (operand l.text.now l.start (primary l.text.now l.depth)))
    (kept l.initial.state) l.initial.tape (kept l.state) l.tape

abbrev pub decreases-read_operands-loop-state : goal.decreases-read_operands-loop-state
decreases-read_operands-loop-state l = l.left
