-- `text_elements::digits_end` meets its contract.
-- Assumes nothing.
use Prim.Native.Nat.{◌+◌}
use lib.ListN.{drop}
use Rattle.meaning.specs.Names.{is_digit}
use Rattle.text_spelling.specs.Word.{name_of}
use Rattle.text_spelling.specs.Joint.{joint}
use Rattle.text_runs.specs.Runs.{digits_of}
use Rattle.text_runs.specs.Turns.{leads_end}
use Rattle.text_spelling.proofs.Auto.{on, done, told, over}
use Rattle.text_elements.proofs.Elements.{cases}
use Rattle.text_elements.proofs.digits_end.Goals as goal

pub loop-e-init : goal.loop-e-init
loop-e-init c = search cases

pub loop-e-preserved : goal.loop-e-preserved
loop-e-preserved c = search (on, told, cases)

pub returns-then-not-is_digit : goal.returns-then-not-is_digit
returns-then-not-is_digit c = search (done, told, cases)

pub returns : goal.returns
returns c = over (λ j. j + digits_of (drop j (name_of (joint c.args.library.now c.args.text.now) c.args.w))) _
    (λ j. leads_end is_digit _ _ j 0 c.requires) _ _ _ c.loop-e.invariant c.loop-e.auto.e-end c.loop-e-test.false c.max.ensures
