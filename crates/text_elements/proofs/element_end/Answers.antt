-- `text_elements::element_end` meets its contract.
-- Assumes nothing.
use Rattle.text_elements.proofs.Elements.{cases}
use Rattle.text_elements.proofs.element_end.Goals as goal

pub returns-then-e-i : goal.returns-then-e-i
returns-then-e-i c = search cases

pub returns : goal.returns
returns c = search cases
