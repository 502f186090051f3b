-- `read_both::head_words` meets its contract.
-- Assumes nothing.
use Rattle.form_rows.specs.Entries.{word_at}
use Rattle.read_both.proofs.Cases.{Changing}
use Rattle.read_both.proofs.head_words.Given as goal

abbrev pub invariant-loop-k : goal.invariant-loop-k
invariant-loop-k l = Changing (word_at l.tape) l.count l.initial.h l.h l.k
