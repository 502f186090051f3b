-- `list_types::is_hidden_there` meets its contract.
-- Assumes nothing.
use Rattle.list_types.proofs.Cases.{cases}
use Rattle.list_types.proofs.is_hidden_there.Goals as goal

pub returns-then-same_word : goal.returns-then-same_word
returns-then-same_word c = search cases
