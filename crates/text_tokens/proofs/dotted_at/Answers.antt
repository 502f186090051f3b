-- `text_tokens::dotted_at` meets its contract.
-- Assumes nothing.
use Rattle.text_names.proofs.Auto.{on, told}
use Rattle.text_tokens.proofs.Cases.{dotted_fits, dotted_both, dotted_open, dotted_key, dotted_none}
use borrow.Author.Rules.{rules}
use Rattle.text_tokens.proofs.dotted_at.Goals as goal

pub overflow_add-end : goal.overflow_add-end
overflow_add-end c = search (dotted_fits, rules)

pub returns-then-byte_at-eq46 : goal.returns-then-byte_at-eq46
returns-then-byte_at-eq46 c = search (on, dotted_both, told, rules)

pub returns-else-byte_at-eq46 : goal.returns-else-byte_at-eq46
returns-else-byte_at-eq46 c = search (on, dotted_open, told, rules)

pub returns-else-kind-eq-IDENT : goal.returns-else-kind-eq-IDENT
returns-else-kind-eq-IDENT c = search (on, dotted_key, told, rules)

pub returns-else-is_word : goal.returns-else-is_word
returns-else-is_word c = search (on, dotted_none, told, rules)
