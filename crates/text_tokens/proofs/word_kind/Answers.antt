-- `text_tokens::word_kind` meets its contract.
-- Assumes nothing.
use Rattle.text_tokens.proofs.Keywords.{kind_none, kind_some, kind_fits, kind_fits_more}
use borrow.Author.Rules.{rules}
use Rattle.text_tokens.proofs.word_kind.Goals as goal

pub returns-then-k-eq0 : goal.returns-then-k-eq0
returns-then-k-eq0 c = search (kind_none, rules)

pub overflow_cast-result : goal.overflow_cast-result
overflow_cast-result c = search (kind_fits, rules)

pub overflow_add-result : goal.overflow_add-result
overflow_add-result c = search (kind_fits_more, rules)

pub returns : goal.returns
returns c = search (kind_some, rules)
