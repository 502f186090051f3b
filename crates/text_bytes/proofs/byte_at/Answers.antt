-- `text_bytes::byte_at` meets its contract.
-- Assumes nothing.
use Rattle.text_bytes.proofs.Bytes.{past_end}
use borrow.Author.Rules.{rules}
use Rattle.text_bytes.proofs.byte_at.Goals as goal

pub returns-else-i-text : goal.returns-else-i-text
returns-else-i-text c = search (past_end, rules)
