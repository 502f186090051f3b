use Rattle.form_keeping.proofs.Cases.{cases}
use Rattle.form_keeping.proofs.clear_forms.Goals as goal

pub loop-k-preserved : goal.loop-k-preserved
loop-k-preserved c = search cases
