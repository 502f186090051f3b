use Rattle.evaluate_states.proofs.Cases.{cases}
use Rattle.evaluate_states.proofs.with_form.Goals as goal

pub returns : goal.returns
returns c = search cases
