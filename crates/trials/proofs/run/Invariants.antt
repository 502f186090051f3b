-- No more cases went well than were run.
use Rattle.std.proofs.Common.{◌≤◌}
use Rattle.trials.proofs.run.Given as goal

abbrev pub invariant-loop-all : goal.invariant-loop-all
invariant-loop-all g l = l.good ≤ l.all
