-- `text_comparing::plain_end` meets its contract.
-- Assumes nothing.
use Prim.Native.Nat.{◌+◌}
use lib.ListN.{drop}
use Rattle.text_runs.specs.Runs.{plain_size}
use Rattle.text_spelling.proofs.Auto.{on, done, over}
use Rattle.text_comparing.proofs.Plain.{cases, plain_end}
use Rattle.text_comparing.proofs.plain_end.Goals as goal

pub loop-i-init : goal.loop-i-init
loop-i-init c = search cases

pub returns-then-b-i : goal.returns-then-b-i
returns-then-b-i c = search (done, cases)

pub bounds-a-i : goal.bounds-a-i
bounds-a-i c = search cases

pub bounds-b-i : goal.bounds-b-i
bounds-b-i c = search cases

pub returns-then-a-i : goal.returns-then-a-i
returns-then-a-i c = search (done, cases)

pub bounds-a-i-in-loop-i : goal.bounds-a-i-in-loop-i
bounds-a-i-in-loop-i c = search cases

pub returns-then-is_digit : goal.returns-then-is_digit
returns-then-is_digit c = search (done, cases)

pub loop-i-preserved : goal.loop-i-preserved
loop-i-preserved c = search (on, cases)

pub returns : goal.returns
returns c = over (λ j. j + plain_size (drop j c.args.a.now) (drop j c.args.b.now)) _ (plain_end _ _) _ _ _
    c.loop-i.invariant c.loop-i.auto.i-end c.loop-i-test.false c.max.ensures
