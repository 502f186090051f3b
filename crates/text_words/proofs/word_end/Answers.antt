-- `text_words::word_end` meets its contract.
-- Assumes nothing.
use Rattle.meaning.specs.Tokens.{at_word}
use Rattle.text_spelling.proofs.Auto.{on, done, told}
use Rattle.text_words.proofs.Runs.{word_on, word_stop, word_less, word_fits, run_ends}
use borrow.Author.Rules.{rules}
use Rattle.text_words.proofs.word_end.Goals as goal

pub overflow_add-i : goal.overflow_add-i
overflow_add-i c = search (word_fits, rules)

pub loop-i-smaller : goal.loop-i-smaller
loop-i-smaller c = search (word_less, rules)

pub loop-i-preserved : goal.loop-i-preserved
loop-i-preserved c = search (on, word_on, told, rules)

pub returns-else-is_word : goal.returns-else-is_word
returns-else-is_word c = search (done, word_stop, told, rules)

pub returns : goal.returns
returns c = search (done, run_ends at_word, rules)
