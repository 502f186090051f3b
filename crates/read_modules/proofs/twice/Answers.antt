-- `read_modules::twice` meets its contract.
-- Assumes nothing.
use Rattle.read_modules.proofs.Cases.{cases}
use Rattle.read_modules.proofs.twice.Goals as goal

pub returns-in_err-read : goal.returns-in_err-read
returns-in_err-read c = search cases

pub returns : goal.returns
returns c = search cases
