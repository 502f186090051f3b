-- `text_comparing::has_zeros` meets its contract.
-- Assumes nothing.
use Rattle.text_comparing.proofs.AtOnce.{zeros_there, zeros_not}
use borrow.Author.Rules.{rules}
use Rattle.text_comparing.proofs.has_zeros.Goals as goal

pub returns-then-text-i-eq48 : goal.returns-then-text-i-eq48
returns-then-text-i-eq48 c = search (zeros_there, rules)

pub returns : goal.returns
returns c = search (zeros_not, rules)
