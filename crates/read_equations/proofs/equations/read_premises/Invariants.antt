-- `read_equations::equations::read_premises` meets its contract. The loop keeps what is to be read: what was at first comes to what is now.
-- Assumes nothing.
use Rattle.std.proofs.Common.{◌-◌}
use Rattle.read_steps.specs.Model.{separated, by_next, sides}
use Rattle.meaning.specs.Names.{byte}
use Rattle.meaning.specs.Grammar.{begins_term}
use Rattle.read_steps.proofs.Lists.{Comes}
use Rattle.read_equations.proofs.equations.read_premises.Given as goal

abbrev pub invariant-loop : goal.invariant-loop
invariant-loop l = Comes (separated l.text 7 (byte ",") begins_term (sides l.text by_next)) (separated l.text (7 - l.counter) (byte ",") begins_term (sides l.text by_next)) l.initial.here l.initial.tape l.here l.tape
