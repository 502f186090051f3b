use Rattle.form_layout.proofs.Cases.{cases}
use Rattle.form_layout.proofs.tape_end.Goals as goal

pub returns : goal.returns
returns c = search cases
