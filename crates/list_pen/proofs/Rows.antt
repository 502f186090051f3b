-- Laws for callers that write rows by a loop, whatever they write of a row: it starts, goes on and ends. And rows with a mark between.
use mathlib.Core.Path.{◌≡◌, refl, sym, ap, ◌∙◌}
use mathlib.Core.List.{List, ◌++◌, append-nil, append_assoc}
use Prim.Native.Nat.{ℕ, zero, suc, ◌+◌, ◌-◌, ◌<◌, ◌≤◌}
use native.Mathlib.Omega.{arith}
use lib.ListN.{length}
use Rattle.meaning.specs.Written.{between_marks}
use Rattle.list_pen.specs.Pen.{pen, written, rows_text, rows_texts}
use Rattle.list_pen.proofs.Laws.{written_append}

-- f of the rows from `first` up to `end` is to be written; the loop is at row i, the next place is t, the list is o
pub record Writing (l : ℕ) (f : ℕ → List ℕ) (first end at : ℕ) (o₀ : List ℕ) (i t : ℕ) (o : List ℕ) : Type 0 where
  pub sized : length o ≡ length o₀
  pub comes : written l (rows_text f first (end - first)) (pen at o₀) ≡ written l (rows_text f i (end - i)) (pen t o)

module _ (l : ℕ) (f : ℕ → List ℕ) (first end at : ℕ) (o₀ : List ℕ) where
  pub rows_start : Writing l f first end at o₀ first at o₀
  rows_start = record { sized = refl; comes = refl }

  module _ (i t : ℕ) (o : List ℕ) (v : Writing l f first end at o₀ i t o) where
    pub rows_again : (r : ℕ) (o' : List ℕ) → i < end → length o' ≡ length o → pen r o' ≡ written l (f i) (pen t o)
        → Writing l f first end at o₀ (i + 1) r o'
    unfolding rows_text
    rows_again r o' h k e =
        let left : end - i ≡ suc (end - (i + 1)) = omega arith in
        record { sized = k ∙ v.sized; comes = v.comes ∙ rw (left, written_append l (f i) (rows_text f (i + 1) (end - (i + 1))) (pen t o), e) }

    pub rows_end : end ≤ i → pen t o ≡ written l (rows_text f first (end - first)) (pen at o₀)
    unfolding rows_text written
    rows_end h =
        let left : end - i ≡ 0 = omega arith in
        sym (v.comes ∙ rw left)

-- rows with a mark between: the first, and then each of the others after a mark
pub rows_between : (m : List ℕ) (f : ℕ → List ℕ) (i n : ℕ)
    → between_marks m (rows_texts f i (suc n)) ≡ f i ++ rows_text (λ (j : ℕ). m ++ f j) (i + 1) n
unfolding between_marks rows_texts rows_text
rows_between m f i zero = sym (append-nil (f i))
rows_between m f i (suc n) =
    let others = rows_text (λ (j : ℕ). m ++ f j) (i + 1 + 1) n in
    ap (λ (x : List ℕ). f i ++ x) (ap (λ (x : List ℕ). m ++ x) (rows_between m f (i + 1) n) ∙ sym (append_assoc m (f (i + 1)) others))
