-- `text_places::are_plain` meets its contract.
-- Assumes nothing.
use Rattle.text_places.proofs.Places.{cases}
use Rattle.text_places.proofs.are_plain.Goals as goal

pub returns-then-a-lt64 : goal.returns-then-a-lt64
returns-then-a-lt64 c = search cases

pub returns : goal.returns
returns c = search cases
