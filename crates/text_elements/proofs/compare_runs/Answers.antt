-- `text_elements::compare_runs` meets its contract.
-- Assumes nothing.
use Rattle.text_elements.proofs.Elements.{cases, run_within, runs_apart, runs_told}
use mathlib.Core.Path.{refl}
use native.Mathlib.Omega.{arith}
use Rattle.text_elements.proofs.compare_runs.Goals as goal

pub overflow_sub-j : goal.overflow_sub-j
overflow_sub-j c = search cases

pub overflow_sub-k : goal.overflow_sub-k
overflow_sub-k c = search cases

pub returns-then-j-k : goal.returns-then-j-k
returns-then-j-k c = runs_apart _ _ _ _ _ _ _ c.zeros_end-x.ensures c.zeros_end-y.ensures c.digits_end.ensures
    c.digits_end-2.ensures _ _ refl refl _ c.if-j-k.true c.cmp.ensures

pub compare_digits-requires : goal.compare_digits-requires
compare_digits-requires c = record {
  left_in_bounds = run_within _ _ _ _ _ _ c.requires.n_value c.requires.i_le_n c.zeros_end-x.ensures c.digits_end.ensures (omega arith);
  left_in_bounds_2 = run_within _ _ _ _ _ _ c.requires.m_value c.requires.i_le_m c.zeros_end-y.ensures c.digits_end-2.ensures (omega (arith, c.if-j-k.false));
}

pub returns : goal.returns
returns c = runs_told _ _ _ _ _ _ _ c.zeros_end-x.ensures c.zeros_end-y.ensures c.digits_end.ensures
    c.digits_end-2.ensures _ _ refl refl c.if-j-k.false _ _ _ c.compare_digits.ensures c.cmp-2.ensures c.then.ensures
