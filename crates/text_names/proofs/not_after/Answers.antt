-- `text_names::not_after` meets its contract.
-- Assumes nothing.
use Rattle.text_names.proofs.Compared.{not_after_told}
use borrow.Author.Rules.{rules}
use Rattle.text_names.proofs.not_after.Goals as goal

pub returns : goal.returns
returns c = search (not_after_told, rules)
