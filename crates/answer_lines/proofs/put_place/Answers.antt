-- `answer_lines::put_place` meets its contract.
-- Assumes nothing.
use Rattle.answer_lines.proofs.Cases.{cases, place_marked}
use borrow.Author.Rules.{rules}
use Rattle.answer_lines.proofs.put_place.Goals as goal

pub returns-then-in_library : goal.returns-then-in_library
returns-then-in_library c = search (place_marked, c.put_text.ensures, c.put_digits-b.ensures, c.put_text-a.ensures, c.if-in_library.true, rules)

pub returns : goal.returns
returns c = search cases
