-- `text_names::joint::not_after` meets its contract.
-- Assumes nothing.
use Rattle.text_names.proofs.Joined.{cases}
use Rattle.text_names.proofs.joint.not_after.Goals as goal

pub returns : goal.returns
returns c = search cases
