-- `read_equations::equations::read_conditions` meets its contract. The loop keeps what is to be read: what was at first comes to what is now.
-- Assumes nothing.
use Rattle.std.proofs.Common.{◌-◌}
use Rattle.tape.specs.Tape.{condition_role}
use Rattle.read_steps.specs.Model.{separated, mark, sides}
use Rattle.meaning.specs.Numbers.{condition_limit}
use Rattle.meaning.specs.Names.{byte}
use Rattle.meaning.specs.Grammar.{begins_term}
use Rattle.read_steps.proofs.Lists.{Comes}
use Rattle.read_equations.proofs.equations.read_conditions.Given as goal

abbrev pub invariant-loop : goal.invariant-loop
invariant-loop l = Comes (separated l.text condition_limit (byte ",") begins_term (sides l.text (mark condition_role))) (separated l.text (condition_limit - l.counter) (byte ",") begins_term (sides l.text (mark condition_role))) l.initial.here l.initial.tape l.here l.tape
