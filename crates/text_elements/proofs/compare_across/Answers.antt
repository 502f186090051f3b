-- `text_elements::compare_across` meets its contract.
-- Assumes nothing.
use Rattle.text_spelling.proofs.Auto.{on, done}
use Rattle.text_elements.proofs.Elements.{cases, left_next}
use Rattle.text_elements.proofs.compare_across.Goals as goal

pub loop-i-init : goal.loop-i-init
loop-i-init c = search cases

pub returns-then-m-i : goal.returns-then-m-i
returns-then-m-i c = search (done, cases)

pub compare_elements-c-requires : goal.compare_elements-c-requires
compare_elements-c-requires c = search cases

pub returns-then-is_ne : goal.returns-then-is_ne
returns-then-is_ne c = search (done, cases)

pub element_end-i-requires : goal.element_end-i-requires
element_end-i-requires c = search cases

pub loop-i-smaller : goal.loop-i-smaller
loop-i-smaller c = search cases

pub loop-i-preserved : goal.loop-i-preserved
loop-i-preserved c = on c.loop-i.invariant
    (left_next _ _ _ _ _ c.name_size-n.ensures c.name_size-m.ensures _ c.loop-i-test.true c.if-m-i.false
    c.compare_elements-c.ensures _ c.is_ne.ensures _ c.if-is_ne.false c.element_end-i.ensures)

pub returns-then-i-m : goal.returns-then-i-m
returns-then-i-m c = search (done, cases)

pub returns : goal.returns
returns c = search (done, cases)
