-- `text_words::is_word` meets its contract.
-- Assumes nothing.
use Rattle.text_words.proofs.Runs.{word_by_class, word_by_quote}
use Rattle.text_words.proofs.is_word.Goals as goal

pub returns-then-is_ascii_alphanumeric : goal.returns-then-is_ascii_alphanumeric
returns-then-is_ascii_alphanumeric c = word_by_class _ _ c.is_ascii_alphanumeric.ensures.value c.if-is_ascii_alphanumeric.true

pub returns-else-is_ascii_alphanumeric : goal.returns-else-is_ascii_alphanumeric
returns-else-is_ascii_alphanumeric c = word_by_quote _ _ c.is_ascii_alphanumeric.ensures.value c.if-is_ascii_alphanumeric.false
