-- `ask_values::put_decision` meets its contract. Assumes nothing.
use Rattle.ask_values.proofs.Cases.{decision_laid}
use Rattle.ask_values.proofs.put_decision.Goals as goal

pub returns : goal.returns
returns c = search (decision_laid, c.put_value-3.ensures, c.put_value-2.ensures, c.put_value.ensures, c.bit-2.ensures, c.put_three-2.ensures, c.bit.ensures, c.put_three.ensures)
