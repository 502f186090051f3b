use Rattle.evaluate_states.proofs.Cases.{cases}
use Rattle.evaluate_states.proofs.first_state.Goals as goal

pub returns : goal.returns
returns c = search cases
