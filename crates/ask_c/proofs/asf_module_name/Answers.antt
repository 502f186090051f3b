-- `ask_c::asf_module_name` meets its contract. Assumes nothing.
use Rattle.ask_c.proofs.Cases.{cases}
use Rattle.ask_c.proofs.asf_module_name.Goals as goal

pub returns : goal.returns
returns c = search cases
