use Rattle.form_keeping.proofs.Cases.{cases}
use Rattle.form_keeping.proofs.write_form.Goals as goal

pub returns : goal.returns
returns c = search cases
