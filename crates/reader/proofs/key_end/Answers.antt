-- `reader::key_end` meets its contract.
-- Assumes nothing.
use Rattle.meaning.specs.Reader.{in_key}
use Rattle.text_names.proofs.Auto.{on, done}
use Rattle.text_names.proofs.Runs.{run_on, run_stop, run_ends}
use Rattle.reader.proofs.Cases.{key_on, key_off_line, key_off_mark}
use borrow.Author.Rules.{rules}
use Rattle.reader.proofs.key_end.Goals as goal

pub returns-then-listing-i-eq10 : goal.returns-then-listing-i-eq10
returns-then-listing-i-eq10 c = search (done, run_stop in_key, key_off_line, rules)

pub returns-then-listing-i-eq61 : goal.returns-then-listing-i-eq61
returns-then-listing-i-eq61 c = search (done, run_stop in_key, key_off_mark, rules)

pub loop-i-preserved : goal.loop-i-preserved
loop-i-preserved c = search (on, run_on in_key, key_on, rules)

pub returns : goal.returns
returns c = search (done, run_ends in_key, rules)
