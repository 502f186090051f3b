-- `unite_checks::clashes::find_repeated` meets its contract. Assumes nothing.
use Rattle.unite_checks.proofs.SearchCases.{neighbours_start, neighbours_again, neighbours_found, neighbours_end}
use borrow.Author.Rules.{rules}
use Rattle.unite_checks.proofs.clashes.find_repeated.Goals as goal

pub loop-i-init : goal.loop-i-init
loop-i-init c = search (neighbours_start, rules)

pub returns-then-same_word : goal.returns-then-same_word
returns-then-same_word c = search (neighbours_found, rules)

pub loop-i-preserved : goal.loop-i-preserved
loop-i-preserved c = neighbours_again _ _ _ _ _ c.requires _ _ _ _ c.loop-i.invariant c.loop-i-test.true
    c.name_by-x.ensures c.name_by-y.ensures c.same_word.ensures c.if-same_word.false

pub returns : goal.returns
returns c = search (neighbours_end, rules)
