-- `read_kept::kept::words` meets its contract.
-- Assumes nothing.
use Rattle.read_kept.proofs.Cases.{words_refused, words_done}
use borrow.Author.Rules.{rules}
use Rattle.read_kept.proofs.kept.words.Goals as goal

pub returns-in-Err : goal.returns-in-Err
returns-in-Err c = search (words_refused, rules)

pub returns-in-Ok : goal.returns-in-Ok
returns-in-Ok c = search (words_done, rules)
