-- `text_comparing::compare_names` meets its contract.
-- Assumes nothing.
use mathlib.Core.Path.{sym, ◌∙◌}
use Rattle.text_comparing.proofs.AtOnce.{seen_longer, seen_same, seen_shorter, seen_first, seen_on, seen_less, seen_over_shorter, seen_over_same}
use Rattle.text_runs.specs.Codes.{seen_not}
use borrow.Author.Rules.{rules}
use Rattle.text_comparing.proofs.compare_names.Goals as goal

pub returns-then-j-a : goal.returns-then-j-a
returns-then-j-a c = search (seen_longer, rules)

pub returns-then-b-j : goal.returns-then-b-j
returns-then-b-j c = search (seen_same, rules)

pub returns-then-a-j : goal.returns-then-a-j
returns-then-a-j c = search (seen_shorter, rules)

pub returns-in_err-order : goal.returns-in_err-order
returns-in_err-order c = search (seen_not, rules)

pub returns-then-is_ne : goal.returns-then-is_ne
returns-then-is_ne c = seen_first _ _ _ _ c.loop-i.invariant c.plain_end-j.ensures _ c.compare_first.ensures _ c.in_ok-order.was
    (sym c.is_ne.ensures ∙ c.if-is_ne.true)

pub loop-i-smaller : goal.loop-i-smaller
loop-i-smaller c = seen_less _ _ _ _ c.loop-i.invariant c.plain_end-j.ensures _ c.compare_first.ensures _ c.in_ok-order.was _
    (sym c.is_ne.ensures ∙ c.if-is_ne.false) c.digits_end-i.ensures c.loop-i-test.true

pub loop-i-preserved : goal.loop-i-preserved
loop-i-preserved c = seen_on _ _ _ _ c.loop-i.invariant c.plain_end-j.ensures _ c.compare_first.ensures _ c.in_ok-order.was _
    (sym c.is_ne.ensures ∙ c.if-is_ne.false) c.digits_end-i.ensures

pub returns-then-b-i : goal.returns-then-b-i
returns-then-b-i c = search (seen_over_same, rules)

pub returns : goal.returns
returns c = search (seen_over_shorter, rules)
