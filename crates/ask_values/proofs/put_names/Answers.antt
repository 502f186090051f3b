-- `ask_values::put_names` meets its contract. Assumes nothing.
use Rattle.ask_values.proofs.Cases.{both_laid}
use borrow.Author.Rules.{rules}
use Rattle.ask_values.proofs.put_names.Goals as goal

pub returns : goal.returns
returns c = search (both_laid, rules)
