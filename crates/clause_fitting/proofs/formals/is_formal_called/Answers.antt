-- `clause_fitting::formals::is_formal_called` meets its contract.
-- Assumes nothing.
use Rattle.meaning.specs.Normal.{is_called}
use Rattle.form_rows.specs.Rows.{item_of}
use Rattle.clause_fitting.specs.Unpaired.{formal_called}
use Rattle.laws_choices.specs.Choices.{choices}
use Rattle.clause_fitting.proofs.formals.is_formal_called.Goals as goal

pub returns-then-in_parameter : goal.returns-then-in_parameter
unfolding formal_called item_of is_called
returns-then-in_parameter c = search choices

pub returns : goal.returns
unfolding formal_called item_of is_called
returns c = search choices
