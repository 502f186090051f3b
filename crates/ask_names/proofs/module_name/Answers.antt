-- `ask_names::module_name` meets its contract. Assumes nothing.
use Rattle.ask_names.proofs.Cases.{calling}
use Rattle.ask_names.proofs.module_name.Goals as goal

pub returns-then-work-size : goal.returns-then-work-size
returns-then-work-size c = search calling

pub returns : goal.returns
returns c = search calling
