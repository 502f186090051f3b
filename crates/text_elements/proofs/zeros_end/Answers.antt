-- `text_elements::zeros_end` meets its contract.
-- Assumes nothing.
use Prim.Native.Nat.{◌+◌}
use lib.ListN.{drop}
use Rattle.text_spelling.specs.Word.{name_of}
use Rattle.text_spelling.specs.Joint.{joint}
use Rattle.text_runs.specs.Runs.{is_zero, zeros_of}
use Rattle.text_runs.specs.Turns.{leads_end}
use borrow.Author.Tests.{eq-eqb, ne_eqb}
use Rattle.text_spelling.proofs.Auto.{on, done, over}
use Rattle.text_elements.proofs.Elements.{cases}
use Rattle.text_elements.proofs.zeros_end.Goals as goal

pub loop-e-init : goal.loop-e-init
loop-e-init c = search cases

pub loop-e-preserved : goal.loop-e-preserved
loop-e-preserved c = search (on, eq-eqb, cases)

pub returns-then-name_byte-ne48 : goal.returns-then-name_byte-ne48
returns-then-name_byte-ne48 c = search (done, ne_eqb, cases)

pub returns : goal.returns
returns c = over (λ j. j + zeros_of (drop j (name_of (joint c.args.library.now c.args.text.now) c.args.w))) _
    (λ j. leads_end is_zero _ _ j 0 c.requires) _ _ _ c.loop-e.invariant c.loop-e.auto.e-end c.loop-e-test.false c.max.ensures
