-- `unite_checks::clashes::find_clash` meets its contract. Assumes nothing.
use mathlib.Core.Path.{refl, ap, ◌∙◌}
use Rattle.text_names.specs.Joint.{joint}
use Rattle.unite_checks.specs.Clashes.{named}
use Rattle.unite_checks.proofs.SearchCases.{rival_start, inner_again, inner_found, inner_other, inner_end, outer_start, outer_again, outer_found, outer_none}
use Rattle.unite_checks.proofs.clashes.find_clash.Goals as goal

pub outer-init : goal.outer-init
outer-init c = record { nothing = refl; so_far = outer_start _ _ _ _ _ _ _ }

pub loop-j-init : goal.loop-j-init
loop-j-init c = record {
  nothing = c.outer.invariant.nothing;
  so_far = rival_start _ _ _ _ _ _ _ _ c.outer-test.true _ _ c.first_rival-j.ensures;
}

pub outer-preserved-then-not-same_called : goal.outer-preserved-then-not-same_called
outer-preserved-then-not-same_called c = record {
  nothing = c.loop-j.invariant.nothing;
  so_far = outer_again _ _ _ _ _ _ _ _ _ _ c.outer-test.true c.outer.invariant.so_far c.row_by-x.ensures
      (inner_other _ _ _ _ _ _ _ _ _ _ c.loop-j.invariant.so_far _ _ c.loop-j-test.true c.row_by-y.ensures c.same_called.ensures
      c.requires c.row_by-x.ensures c.if-not-same_called.true) refl;
}

pub loop-j-preserved : goal.loop-j-preserved
loop-j-preserved c = record {
  nothing = c.loop-j.invariant.nothing;
  so_far = inner_again _ _ _ _ _ _ _ _ _ _ c.loop-j.invariant.so_far _ _ c.loop-j-test.true c.row_by-y.ensures c.same_called.ensures
      _ c.at_odds.ensures c.if-not-same_called.false c.if-at_odds.false;
}

pub outer-preserved : goal.outer-preserved
outer-preserved c = record {
  nothing = c.loop-j.invariant.nothing;
  so_far = outer_again _ _ _ _ _ _ _ _ _ _ c.outer-test.true c.outer.invariant.so_far c.row_by-x.ensures
      (inner_end _ _ _ _ _ _ _ _ _ _ c.loop-j.invariant.so_far c.loop-j-test.false) refl;
}

pub returns-then-at_odds : goal.returns-then-at_odds
returns-then-at_odds c =
    outer_found _ _ _ _ _ _ _ c.requires _ _ _ c.outer-test.true c.outer.invariant.so_far c.row_by-x.ensures
    (inner_found _ _ _ _ _ _ _ _ _ _ c.loop-j.invariant.so_far _ _ c.loop-j-test.true c.row_by-y.ensures c.same_called.ensures
    _ c.at_odds.ensures c.if-not-same_called.false c.if-at_odds.true) refl

pub returns-after-outer : goal.returns-after-outer
returns-after-outer c =
    ap (named (joint c.args.library.now c.args.text.now)) c.outer.invariant.nothing
    ∙ outer_none _ _ _ _ _ _ _ c.requires _ c.outer-test.false c.outer.invariant.so_far
